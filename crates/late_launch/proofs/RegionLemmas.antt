-- The region of an area and memory around it, where one of them changes.
use Rattle.std.proofs.Common.{◌≡◌, ℕ, ◌+◌, ◌-◌, ◌*◌, ◌/◌, ◌^◌, ◌<◌, ◌≤◌, List, [], ◌∷◌, ◌++◌, drop, length, length-append, replicate, refl, sym, ap, ◌∙◌, inl, inr, arith, Bool, true, false, Some, slice_get}
use Rattle.std.specs.Prelude.{filter}
use Rattle.std.specs.List.{refill}
use Rattle.std.proofs.lemmas.Bool.{cases_lt, cases_Bool}
use Rattle.std.proofs.lemmas.List.{length-replicate, drop-replicate}
use Rattle.region_pool.proofs.Frames.{slice_get-replicate}
use Rattle.region_pool.specs.declared.mark.Mark.{Mark}
use Rattle.region_pool.specs.Spans.{Span}
use Rattle.machine_memory.specs.Writes.{part, written}
use Rattle.machine_memory.specs.Contents.{Contents, IsMemory, first_byte, frame_count}
use Rattle.machine_memory.specs.Spans.{with_bytes}
use Rattle.machine_memory.specs.LentSpans as lent
use Rattle.machine_memory.specs.Areas.{IsArea, region_frames, region_of, guarded, unguarded, erased}
use Rattle.machine_memory.specs.DeviceWrites.{may_write, after_device_write}
use Rattle.machine_memory.specs.ArmedWrites.{Armed, is_due, after_device_writes, memory_after_turn}
use Rattle.machine_memory.proofs.Pieces.{writes-written, length-part, length-refill, written-nothing}
use Rattle.machine_memory.proofs.DeviceLemmas.{may_write-true}
use Rattle.machine_memory.proofs.MemoryLemmas.{held_within, open_within, memory-device_write}
use Rattle.late_launch.specs.Regions.{input_page, output_page, page, region_bytes, around, around_after_turn, with_outputs, IsGuarded, IsCleared}
use Rattle.late_launch.proofs.Sizes.{region_frames_are}
use Rattle.late_launch.proofs.Apart.{AreApart, written-over, part-written, part-apart, written-commutes}

-- the area lies in memory: its 18 frames by their bytes, and by their exclusion bits
pub record Inside (memory : Contents) (area : Span) : Type 0 where
  pub bytes : first_byte (area.first + 18) ≤ length memory.bytes
  pub bits : area.first + 18 ≤ length memory.excluded

pub inside_memory : (memory : Contents) (area : Span) → IsMemory memory → IsArea memory.marks area → Inside memory area
inside_memory memory area m placed =
    let within = held_within memory.marks area placed.held in
    let frames = placed.frames in
    let marks = m.frames in
    let bits = m.bits in
    let size = m.size in
    record { bytes = omega arith; bits = omega arith }

-- an area has few frames below it
pub area_below : (memory : Contents) (area : Span) → IsMemory memory → IsArea memory.marks area → area.first + 18 ≤ 1024
unfolding frame_count
area_below memory area m placed =
    let within = held_within memory.marks area placed.held in
    let frames = placed.frames in
    let marks = m.frames in
    omega arith

-- as many zeros, and as many bits, as the region has
zeros_long : length (replicate {A = ℕ} (first_byte region_frames) 0) ≡ 65536
zeros_long = length-replicate {A = ℕ} (first_byte region_frames) 0 ∙ ap first_byte region_frames_are

bits_long : (bit : Bool) → length (replicate region_frames bit) ≡ 16
bits_long bit = length-replicate region_frames bit ∙ region_frames_are

pub region_size_is : first_byte region_frames ≡ 65536
region_size_is = ap first_byte region_frames_are

pub region_long : (memory : Contents) (area : Span) → Inside memory area → length (region_bytes memory area) ≡ 65536
region_long memory area inside =
    let size = region_size_is in
    let bytes = inside.bytes in
    length-part memory.bytes (first_byte area.first) (first_byte region_frames) (omega arith) ∙ region_size_is

-- ---- a loan of the region

-- what comes back changes nothing around the region
pub around_loan : (memory : Contents) (area : Span) (bytes : List ℕ) → Inside memory area → around (lent.after_loan memory (region_of area) bytes) area ≡ around memory area
around_loan memory area bytes inside =
    let size = region_size_is in
    let fits = inside.bytes in
    let at = first_byte area.first in
    let count = first_byte region_frames in
    let back = refill count (part memory.bytes at count) bytes in
    let back_long : length back ≡ count = length-refill count (part memory.bytes at count) bytes (length-part memory.bytes at count (omega arith)) in
    let zeros = zeros_long in
    ap (λ (bytes : List ℕ). unguarded (record memory { bytes = bytes }) area)
    (written-over memory.bytes at back (replicate count 0) (omega arith) (omega arith))

-- and is the region
pub region_loan : (memory : Contents) (area : Span) (bytes : List ℕ) → Inside memory area
    → region_bytes (lent.after_loan memory (region_of area) bytes) area ≡ refill (first_byte region_frames) (region_bytes memory area) bytes
region_loan memory area bytes inside =
    let size = region_size_is in
    let fits = inside.bytes in
    let at = first_byte area.first in
    let count = first_byte region_frames in
    let back = refill count (part memory.bytes at count) bytes in
    let back_long : length back ≡ count = length-refill count (part memory.bytes at count) bytes (length-part memory.bytes at count (omega arith)) in
    part-written memory.bytes at count back back_long (omega arith)

-- ---- pages that lie in no region

-- the first byte of a page has an address of 32 bits
pub page_small : (memory : Contents) (area : Span) (number : ℕ) → IsMemory memory → IsArea memory.marks area → number < 18 → 4096 * (area.first + number) < 2 ^ 32
page_small memory area number m placed small = let below = area_below memory area m placed in omega arith

-- zeros after a prefix that was written over
pub page_written : (size : ℕ) (outputs : List ℕ) → written (replicate size 0) 0 outputs ≡ outputs ++ replicate (size - length outputs) 0
page_written size outputs =
    ap (λ (n : ℕ). outputs ++ drop n (replicate size 0)) (let e : 0 + length outputs ≡ length outputs = omega arith in e)
    ∙ ap (λ (xs : List ℕ). outputs ++ xs) (drop-replicate (length outputs) size 0)

-- the input page is around the region
pub inputs_around : (memory : Contents) (area : Span) (count : ℕ) → Inside memory area → count ≤ 4096
    → part (around memory area).bytes (input_page area) count ≡ part memory.bytes (input_page area) count
inputs_around memory area count inside few =
    let fits = inside.bytes in
    let zeros = zeros_long in
    part-apart memory.bytes (first_byte area.first) (input_page area) count (replicate (first_byte region_frames) 0)
    (inl (omega arith)) (omega arith) (omega arith)

-- a page of outputs has all its bytes
pub page_long : (outputs : List ℕ) → length outputs ≤ 4096 → length (page outputs) ≡ 4096
page_long outputs short =
    omega (arith, length-append outputs (replicate (4096 - length outputs) 0), length-replicate {A = ℕ} (4096 - length outputs) 0)

-- outputs put before the region is erased and opened, or after
pub outputs_around : (memory : Contents) (area : Span) (outputs : List ℕ) → Inside memory area → length outputs ≤ 4096
    → around (with_outputs memory area outputs) area ≡ with_outputs (around memory area) area outputs
outputs_around memory area outputs inside short =
    let fits = inside.bytes in
    let zeros = zeros_long in
    let long = page_long outputs short in
    ap (λ (bytes : List ℕ). unguarded (record memory { bytes = bytes }) area)
    (written-commutes memory.bytes (output_page area) (first_byte area.first) (page outputs) (replicate (first_byte region_frames) 0)
    (inr (omega arith)) (omega arith) (omega arith))

-- ---- the end of a session

-- around a region it is clear
pub cleared_around : (memory : Contents) (area : Span) → Inside memory area → IsCleared (around memory area) area
cleared_around memory area inside =
    let fits = inside.bytes in
    let bits = inside.bits in
    let size = region_size_is in
    let frames = region_frames_are in
    record {
      zero = part-written memory.bytes (first_byte area.first) (first_byte region_frames) (replicate (first_byte region_frames) 0) (length-replicate {A = ℕ} (first_byte region_frames) 0) (omega arith);
      open_again = part-written memory.excluded area.first region_frames (replicate region_frames false) (length-replicate region_frames false) (omega arith);
    }

-- ---- device writes

-- guarding what was opened is guarding it
guarded-unguarded : (memory : Contents) (area : Span) → Inside memory area → guarded (unguarded memory area) area ≡ guarded memory area
guarded-unguarded memory area inside =
    let bits = inside.bits in
    let shut = bits_long true in
    let open' = bits_long false in
    ap (λ (excluded : List Bool). record memory { excluded = excluded })
    (written-over memory.excluded area.first (replicate region_frames false) (replicate region_frames true) (omega arith) (omega arith))

-- a frame of a guarded region is excluded
guarded_frame : (memory : Contents) (area : Span) (frame : ℕ) → Inside memory area → IsGuarded memory area → area.first ≤ frame → frame < area.first + 16
    → slice_get memory.excluded frame ≡ Some true
guarded_frame memory area frame inside shut low high =
    let bits = inside.bits in
    let long = bits_long true in
    let w = writes-written memory.excluded area.first (replicate region_frames true) (omega arith) in
    let frames = region_frames_are in
    ap (λ (m : Contents). slice_get m.excluded frame) (sym shut)
    ∙ w.inside (frame - area.first) frame (omega arith) (omega arith)
    ∙ slice_get-replicate region_frames true (frame - area.first) (omega arith)

-- what a device may write lies apart from a guarded region
pub apart_from_region : (memory : Contents) (area : Span) (at count : ℕ) → Inside memory area → IsGuarded memory area → 1 ≤ count
    → may_write memory.excluded at count ≡ true → AreApart at count (first_byte area.first) 65536
apart_from_region memory area at count inside shut some may =
    let start : ℕ = first_byte area.first in
    let clash : (address : ℕ) → at ≤ address → address < at + count → start ≤ address → address < start + 65536 → ⊥
    = λ address l h low high.
    let open' = may_write-true memory.excluded at count may address l h in
    let closed = guarded_frame memory area (address / 4096) inside shut (omega arith) (omega arith) in
    let both : Some true ≡ Some false = sym closed ∙ open' in
    cc in
    elim (cases_lt start (at + count)) [
      | inl l ↦ elim (cases_lt at (start + 65536)) [
        | inl h ↦ (elim (cases_lt at start) [
          | inl low ↦ absurd (clash start (omega arith) l (omega arith) (omega arith))
          | inr low ↦ absurd (clash at (omega arith) (omega arith) low h)
        ])
        | inr h ↦ inr h
      ]
      | inr l ↦ inl l
    ]

-- a device write on memory with a guarded region: it leaves the region, and does the same where the region is zero
pub record WritesAround (memory after : Contents) (area : Span) (at : ℕ) (bytes : List ℕ) : Type 0 where
  pub region : region_bytes after area ≡ region_bytes memory area
  pub erased_is : erased after area ≡ after_device_write (erased memory area) at bytes
  pub whole : IsMemory after
  pub inside : Inside after area
  pub guarded_region : IsGuarded after area

blocked : (memory : Contents) (area : Span) (at : ℕ) (bytes : List ℕ) → IsMemory memory → Inside memory area → IsGuarded memory area
    → may_write memory.excluded at (length bytes) ≡ false → WritesAround memory memory area at bytes
blocked memory area at bytes m inside shut refused = record {
  region = refl;
  erased_is = rw refused refl;
  whole = m;
  inside = inside;
  guarded_region = shut;
}

-- no bytes are written anywhere
nothing : (memory : Contents) (at : ℕ) → with_bytes memory at [] ≡ memory
nothing memory at = ap (λ (bytes : List ℕ). record memory { bytes = bytes }) (written-nothing memory.bytes at)

write_none : (memory : Contents) (area : Span) (at : ℕ) → IsMemory memory → Inside memory area → IsGuarded memory area
    → may_write memory.excluded at 0 ≡ true → WritesAround memory (with_bytes memory at []) area at []
write_none memory area at m inside shut may =
    rw (nothing memory at) (record {
      region = refl;
      erased_is = rw (may, nothing (erased memory area) at) refl;
      whole = m;
      inside = inside;
      guarded_region = shut;
    })

write_some : (memory : Contents) (area : Span) (at : ℕ) (bytes : List ℕ) → IsMemory memory → Inside memory area → IsGuarded memory area
    → 1 ≤ length bytes → may_write memory.excluded at (length bytes) ≡ true → WritesAround memory (with_bytes memory at bytes) area at bytes
write_some memory area at bytes m inside shut some may =
    let size = region_size_is in
    let within = open_within memory at (length bytes) m some may in
    let apart = apart_from_region memory area at (length bytes) inside shut some may in
    let fits = inside.bytes in
    let zeros = zeros_long in
    let w = writes-written memory.bytes at bytes within in
    let long = w.long in
    let bits = inside.bits in
    record {
      region = part-apart memory.bytes at (first_byte area.first) (first_byte region_frames) bytes (sized apart) within (omega arith);
      erased_is = rw may (ap (λ (xs : List ℕ). record memory { bytes = xs }) (written-commutes memory.bytes at (first_byte area.first) bytes (replicate (first_byte region_frames) 0) (zeroed apart) within (omega arith)));
      whole = memory-device_write memory at bytes m some may;
      inside = record { bytes = omega arith; bits = bits };
      guarded_region = ap (λ (excluded : List Bool). record memory { bytes = written memory.bytes at bytes; excluded = excluded }) (ap (λ (m : Contents). m.excluded) shut);
    }
  where
    sized : AreApart at (length bytes) (first_byte area.first) 65536 → AreApart at (length bytes) (first_byte area.first) (first_byte region_frames)
    sized apart = rw region_size_is apart

    zeroed : AreApart at (length bytes) (first_byte area.first) 65536 → AreApart at (length bytes) (first_byte area.first) (length (replicate {A = ℕ} (first_byte region_frames) 0))
    zeroed apart = rw zeros_long apart

pub writes_around : (memory : Contents) (area : Span) (at : ℕ) (bytes : List ℕ) → IsMemory memory → Inside memory area → IsGuarded memory area
    → WritesAround memory (after_device_write memory at bytes) area at bytes
writes_around memory area at [] m inside shut =
    elim (cases_Bool (may_write memory.excluded at 0)) [
      | inl may ↦ rw may (write_none memory area at m inside shut may)
      | inr refused ↦ rw refused (blocked memory area at [] m inside shut refused)
    ]
writes_around memory area at (byte ∷ bytes) m inside shut =
    elim (cases_Bool (may_write memory.excluded at (length (byte ∷ bytes)))) [
      | inl may ↦ rw may (write_some memory area at (byte ∷ bytes) m inside shut (omega arith) may)
      | inr refused ↦ rw refused (blocked memory area at (byte ∷ bytes) m inside shut refused)
    ]

-- writes of devices, one after another
record WriteAround (memory after zeroed : Contents) (area : Span) : Type 0 where
  region : region_bytes after area ≡ region_bytes memory area
  erased_is : erased after area ≡ zeroed

all_around : (writes : List Armed) (memory : Contents) (area : Span) → IsMemory memory → Inside memory area → IsGuarded memory area
    → WriteAround memory (after_device_writes memory writes) (after_device_writes (erased memory area) writes) area
all_around [] memory area m inside shut = record { region = refl; erased_is = refl }
all_around (write ∷ writes) memory area m inside shut =
    let one = writes_around memory area write.at write.bytes m inside shut in
    let rest = all_around writes (after_device_write memory write.at write.bytes) area one.whole one.inside one.guarded_region in
    record {
      region = rest.region ∙ one.region;
      erased_is = rest.erased_is ∙ ap (λ (m : Contents). after_device_writes m writes) one.erased_is;
    }

-- memory with a guarded region, seen from around it
pub guarded_around : (memory : Contents) (area : Span) → Inside memory area → IsGuarded memory area → guarded (around memory area) area ≡ erased memory area
guarded_around memory area inside shut =
    let fits = inside.bytes in
    let zeros = zeros_long in
    let w = writes-written memory.bytes (first_byte area.first) (replicate (first_byte region_frames) 0) (omega arith) in
    let long = w.long in
    guarded-unguarded (erased memory area) area (record { bytes = omega arith; bits = inside.bits })
    ∙ ap (λ (excluded : List Bool). record memory { bytes = written memory.bytes (first_byte area.first) (replicate (first_byte region_frames) 0); excluded = excluded }) (ap (λ (m : Contents). m.excluded) shut)

-- devices change no mark and no exclusion bit
record SameFrames (old new : Contents) : Type 0 where
  marks : new.marks ≡ old.marks
  excluded : new.excluded ≡ old.excluded

write_keeps : (memory : Contents) (at : ℕ) (bytes : List ℕ) → SameFrames memory (after_device_write memory at bytes)
write_keeps memory at bytes =
    elim (cases_Bool (may_write memory.excluded at (length bytes))) [
      | inl may ↦ rw may (record { marks = refl; excluded = refl })
      | inr refused ↦ rw refused (record { marks = refl; excluded = refl })
    ]

writes_keep : (writes : List Armed) (memory : Contents) → SameFrames memory (after_device_writes memory writes)
writes_keep [] memory = record { marks = refl; excluded = refl }
writes_keep (write ∷ writes) memory =
    let one = write_keeps memory write.at write.bytes in
    let rest = writes_keep writes (after_device_write memory write.at write.bytes) in
    record { marks = rest.marks ∙ one.marks; excluded = rest.excluded ∙ one.excluded }

-- memory of these parts
same_memory : (bytes bytes' : List ℕ) (marks marks' : List Mark) (excluded excluded' : List Bool) → bytes ≡ bytes' → marks ≡ marks' → excluded ≡ excluded'
    → ◌≡◌ {A = Contents} (record { bytes = bytes; marks = marks; excluded = excluded }) (record { bytes = bytes'; marks = marks'; excluded = excluded' })
same_memory bytes bytes' marks marks' excluded excluded' b m e = rw (b, m, e) refl

-- the writes of a turn, around the region and in it
pub turn_around : (turn : ℕ) (memory : Contents) (area : Span) (writes : List Armed) → IsMemory memory → Inside memory area → IsGuarded memory area
    → around (memory_after_turn turn memory writes) area ≡ around_after_turn turn area (around memory area) writes
turn_around turn memory area writes m inside shut =
    let done = all_around (filter (is_due turn) writes) memory area m inside shut in
    let same = writes_keep (filter (is_due turn) writes) memory in
    same_memory _ _ _ _ _ _
    (ap (λ (m : Contents). m.bytes) (done.erased_is ∙ ap (λ (m : Contents). memory_after_turn turn m writes) (sym (guarded_around memory area inside shut))))
    same.marks
    (ap (λ (excluded : List Bool). written excluded area.first (replicate region_frames false)) same.excluded)

pub turn_region : (turn : ℕ) (memory : Contents) (area : Span) (writes : List Armed) → IsMemory memory → Inside memory area → IsGuarded memory area
    → region_bytes (memory_after_turn turn memory writes) area ≡ region_bytes memory area
turn_region turn memory area writes m inside shut = (all_around (filter (is_due turn) writes) memory area m inside shut).region

-- the exclusion bits of memory with a guarded region
pub excluded_around : (memory : Contents) (area : Span) → Inside memory area → IsGuarded memory area → memory.excluded ≡ (guarded (around memory area) area).excluded
excluded_around memory area inside shut = sym (ap (λ (m : Contents). m.excluded) (guarded_around memory area inside shut))

-- a region may be guarded before it is looked at from around
pub around_guarded : (memory : Contents) (area : Span) → Inside memory area → around (guarded memory area) area ≡ around memory area
around_guarded memory area inside =
    let bits = inside.bits in
    let shut = bits_long true in
    let open' = bits_long false in
    ap (λ (excluded : List Bool). record memory { bytes = written memory.bytes (first_byte area.first) (replicate (first_byte region_frames) 0); excluded = excluded })
    (written-over memory.excluded area.first (replicate region_frames true) (replicate region_frames false) (omega arith) (omega arith))

-- outputs leave the area in memory
pub inside_outputs : (memory : Contents) (area : Span) (outputs : List ℕ) → Inside memory area → length outputs ≤ 4096 → Inside (with_outputs memory area outputs) area
inside_outputs memory area outputs inside short =
    let fits = inside.bytes in
    let long = page_long outputs short in
    let w = writes-written memory.bytes (output_page area) (page outputs) (omega arith) in
    let w_long = w.long in
    record { bytes = omega arith; bits = inside.bits }
