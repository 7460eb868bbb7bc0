-- What is true of every memory stays true where it changes.
use Rattle.std.proofs.Common.{◌≡◌, ℕ, ◌+◌, ◌-◌, ◌<◌, ◌≤◌, ◌^◌, List, length, replicate, refl}
use Rattle.std.proofs.Common.{sym, ap, ◌∙◌, inl, inr, arith, lit<, Bool, true, false, Some}
use Rattle.std.proofs.Common.{slice_get, get_or, set, [], ◌∷◌}
use Rattle.std.specs.Option.{option_map}
use Rattle.std.specs.List.{refill}
use Rattle.std.proofs.lemmas.Bool.{cases_lt, both_ways}
use Rattle.std.proofs.lemmas.List.{length-replicate, length-map}
use Rattle.std.proofs.lemmas.Option.{slice_get-map, slice_get_within, slice_get-get_or}
use Rattle.region_pool.specs.declared.mark.Mark.{Mark}
use Rattle.region_pool.specs.declared.mark.Mark.TheVariants.{Free}
use Rattle.region_pool.specs.Marks.{is_free, IsTaken}
use Rattle.region_pool.specs.Places.{IsPlace}
use Rattle.region_pool.specs.Spans.{Span, end_of, marks_of, Holds}
use Rattle.region_pool.proofs.Frames.{slice_get-replicate, same_at_each}
use Rattle.region_pool.proofs.HeldSpans.{replaces-with_marks, length-marks_of, stands-from_held}
use Rattle.region_pool.proofs.HeldSpans.{taken-stands}
use Rattle.region_pool.proofs.PoolMarks.{pool-with_span, pool-without_span, held-with_span}
use Rattle.region_pool.proofs.PoolMarks.{pool-replicate}
use Rattle.region_pool.proofs.FrameSpans.{taken-from_mark}
use Rattle.region_pool.proofs.Search.{free-place, within-place}
use Rattle.machine_memory.specs.Writes.{part, written}
use Rattle.machine_memory.specs.Contents.{Contents, IsMemory, IsFree, first_byte, frame_of}
use Rattle.machine_memory.specs.Contents.{frame_count, blank, after_power_cycle}
use Rattle.machine_memory.specs.Spans.{LiesInSpan, bytes_of, with_bytes, after_take, after_give}
use Rattle.machine_memory.specs.LentSpans.{after_loan}
use Rattle.machine_memory.specs.DeviceWrites.{may_write}
use Rattle.machine_memory.proofs.Pieces.{refill-long, lent_back-set, length-refill, writes-written}
use Rattle.machine_memory.proofs.Pieces.{slice_get-part, length-part, written-nothing}
use Rattle.machine_memory.proofs.DeviceLemmas.{may_write-true, may_write-past}

-- as many bytes as the frames have
pub size_by_marks : (memory : Contents) → IsMemory memory
    → length memory.bytes ≡ first_byte (length memory.marks)
size_by_marks memory m = m.size ∙ ap (λ (n : ℕ). first_byte n) (sym m.frames)

pub size_by_bits : (memory : Contents) → IsMemory memory
    → length memory.bytes ≡ first_byte (length memory.excluded)
size_by_bits memory m = m.size ∙ ap (λ (n : ℕ). first_byte n) (sym m.bits)

-- a span that is held is in memory, and none of its frames is free
pub held_within : (marks : List Mark) (span : Span) → Holds marks span → end_of span ≤ length marks
held_within marks span held = (stands-from_held marks span held).within

pub held-not_free : (memory : Contents) (span : Span) (frame : ℕ) → Holds memory.marks span
    → span.first ≤ frame → frame < end_of span → IsFree memory frame → ⊥
held-not_free memory span frame held l h =
    taken-stands memory.marks span (stands-from_held memory.marks span held) frame l h

pub lies_within : (memory : Contents) (at count : ℕ) → IsMemory memory
    → LiesInSpan memory.marks at count → at + count ≤ length memory.bytes
lies_within memory at count m s =
    let ends = s.inside.ends in
    let within = held_within memory.marks s.span s.held in
    let size = size_by_marks memory m in
    omega arith

lies-not_free : (memory : Contents) (at count address : ℕ) → LiesInSpan memory.marks at count
    → at ≤ address → address < at + count → IsFree memory (frame_of address) → ⊥
lies-not_free memory at count address s l h =
    let begins = s.inside.begins in
    let ends = s.inside.ends in
    held-not_free memory s.span (frame_of address) s.held (omega arith) (omega arith)

-- bytes of frames that are not free may change
pub memory-with_bytes : (memory : Contents) (at : ℕ) (piece : List ℕ) → IsMemory memory
    → at + length piece ≤ length memory.bytes
    → ((address : ℕ) → at ≤ address → address < at + length piece → IsFree memory (frame_of address)
    → ⊥) → IsMemory (with_bytes memory at piece)
memory-with_bytes memory at piece m fits taken =
    let w = writes-written memory.bytes at piece fits in
    record {
      pool = m.pool;
      frames = m.frames;
      bits = m.bits;
      size = w.long ∙ m.size;
      free_is_excluded = m.free_is_excluded;
      free_is_zero = λ frame free address e. elim (cases_lt address at) [
        | inl l ↦ w.below address l ∙ m.free_is_zero frame free address e
        | inr l ↦ elim (cases_lt address (at + length piece)) [
          | inl h ↦ absurd (taken address l h (ap (slice_get memory.marks) e ∙ free))
          | inr h ↦ w.above address h ∙ m.free_is_zero frame free address e
        ]
      ];
    }

pub memory-host_write : (memory : Contents) (at : ℕ) (piece : List ℕ) → IsMemory memory
    → LiesInSpan memory.marks at (length piece) → IsMemory (with_bytes memory at piece)
memory-host_write memory at piece m s =
    memory-with_bytes memory at piece m (lies_within memory at (length piece) m s)
    (λ address l h. lies-not_free memory at (length piece) address s l h)

-- what devices may write is in memory, and not free
pub open_within : (memory : Contents) (at count : ℕ) → IsMemory memory → 1 ≤ count
    → may_write memory.excluded at count ≡ true → at + count ≤ length memory.bytes
open_within memory at count m some e =
    elim (cases_lt (first_byte (length memory.excluded)) (at + count)) [
      | inl l ↦ absurd
          (both_ways (may_write memory.excluded at count)
          (may_write-past memory.excluded at count some l) e)
      | inr l ↦ (let size = size_by_bits memory m in omega arith)
    ]

pub memory-device_write : (memory : Contents) (at : ℕ) (piece : List ℕ) → IsMemory memory
    → 1 ≤ length piece → may_write memory.excluded at (length piece) ≡ true
    → IsMemory (with_bytes memory at piece)
memory-device_write memory at piece m some e =
    memory-with_bytes memory at piece m (open_within memory at (length piece) m some e)
    (λ address l h free.
    let open' = may_write-true memory.excluded at (length piece) e address l h in
    let clash : Some true ≡ Some false = sym (m.free_is_excluded (frame_of address) free) ∙ open' in
    cc)

-- also where no byte is written
pub memory-device_done : (memory : Contents) (at : ℕ) (piece : List ℕ) → IsMemory memory
    → may_write memory.excluded at (length piece) ≡ true → IsMemory (with_bytes memory at piece)
memory-device_done memory at [] m e = rw (written-nothing memory.bytes at) m
memory-device_done memory at (x ∷ piece) m e =
    memory-device_write memory at (x ∷ piece) m (omega arith) e

-- what devices may write is taken
pub open-taken : (memory : Contents) (at count address : ℕ) → IsMemory memory
    → may_write memory.excluded at count ≡ true → at ≤ address → address < at + count
    → IsTaken memory.marks (frame_of address)
open-taken memory at count address m e l h =
    let frame : ℕ = frame_of address in
    let open' = may_write-true memory.excluded at count e address l h in
    let inside = slice_get_within memory.excluded frame false open' in
    let marks = m.frames in
    let bits = m.bits in
    let here = slice_get-get_or memory.marks frame Free (omega arith) in
    taken-from_mark memory.marks frame (get_or memory.marks frame Free) here
    (λ free.
    let clash : Some true ≡ Some false = sym (m.free_is_excluded frame (here ∙ ap Some free))
    ∙ open' in
    cc)

-- exclusion bits of frames that are not free may change
pub memory-with_bits : (memory : Contents) (first : ℕ) (bits : List Bool) → IsMemory memory
    → first + length bits ≤ length memory.excluded
    → ((frame : ℕ) → first ≤ frame → frame < first + length bits → IsFree memory frame → ⊥)
    → IsMemory (record memory { excluded = written memory.excluded first bits })
memory-with_bits memory first bits m fits taken =
    let w = writes-written memory.excluded first bits fits in
    record {
      pool = m.pool;
      frames = m.frames;
      bits = w.long ∙ m.bits;
      size = m.size;
      free_is_excluded = λ frame free. elim (cases_lt frame first) [
        | inl l ↦ w.below frame l ∙ m.free_is_excluded frame free
        | inr l ↦ elim (cases_lt frame (first + length bits)) [
          | inl h ↦ absurd (taken frame l h free)
          | inr h ↦ w.above frame h ∙ m.free_is_excluded frame free
        ]
      ];
      free_is_zero = m.free_is_zero;
    }

-- a part of a held span: so many of its first frames
pub memory-span_bits : (memory : Contents) (span : Span) (count : ℕ) (bit : Bool) → IsMemory memory
    → Holds memory.marks span → count ≤ span.frames
    → IsMemory (record
    memory { excluded = written memory.excluded span.first (replicate count bit) })
memory-span_bits memory span count bit m held few =
    let long = length-replicate count bit in
    let within = held_within memory.marks span held in
    let marks = m.frames in
    let bits = m.bits in
    memory-with_bits memory span.first (replicate count bit) m (omega arith)
    (λ frame l h. held-not_free memory span frame held l (omega arith))

pub memory-span_bytes : (memory : Contents) (span : Span) (piece : List ℕ) → IsMemory memory
    → Holds memory.marks span → length piece ≤ first_byte span.frames
    → IsMemory (with_bytes memory (first_byte span.first) piece)
memory-span_bytes memory span piece m held few =
    memory-host_write memory (first_byte span.first) piece m
    (record {
      span = span;
      held = held;
      inside = record { begins = omega arith; ends = omega arith };
    })

-- so many of the first frames of a held span are in memory
pub span_within : (memory : Contents) (span : Span) (frames : ℕ) → IsMemory memory
    → Holds memory.marks span → frames ≤ span.frames
    → first_byte span.first + first_byte frames ≤ length memory.bytes
span_within memory span frames m held few =
    let within = held_within memory.marks span held in
    let size = size_by_marks memory m in
    omega arith

-- whatever comes back from a loan of them
pub memory-after_loan : (memory : Contents) (span : Span) (frames : ℕ) (bytes : List ℕ)
    → IsMemory memory → Holds memory.marks span → frames ≤ span.frames
    → IsMemory (after_loan memory (record span { frames = frames }) bytes)
memory-after_loan memory span frames bytes m held few =
    let lent = part memory.bytes (first_byte span.first) (first_byte frames) in
    let long = length-refill (first_byte frames) lent bytes
    (length-part memory.bytes (first_byte span.first) (first_byte frames)
    (span_within memory span frames m held few)) in
    memory-span_bytes memory span (refill (first_byte frames) lent bytes) m held (omega arith)

-- what comes back is as long as what was lent, as a slice always is
pub after_loan-long : (memory : Contents) (span : Span) (bytes : List ℕ)
    → length bytes ≡ first_byte span.frames
    → after_loan memory span bytes ≡ with_bytes memory (first_byte span.first) bytes
after_loan-long memory span bytes long =
    ap (λ (xs : List ℕ). with_bytes memory (first_byte span.first) xs)
    (refill-long (first_byte span.frames) (bytes_of memory span) bytes long)

-- one byte of the span was set
pub after_loan-set : (memory : Contents) (span : Span) (k byte : ℕ)
    → first_byte span.first + first_byte span.frames ≤ length memory.bytes
    → k < first_byte span.frames
    → after_loan memory span (set (bytes_of memory span) k byte)
    ≡ with_bytes memory (first_byte span.first + k) (byte ∷ [])
after_loan-set memory span k byte fits inside =
    ap (λ (bytes : List ℕ). record memory { bytes = bytes })
    (lent_back-set memory.bytes (first_byte span.first) (first_byte span.frames) k byte fits
    inside)

-- a span taken

pub memory-after_take : (memory : Contents) (span : Span) (align : ℕ) → IsMemory memory
    → 1 ≤ span.frames → IsPlace memory.marks span.frames align span.first
    → IsMemory (after_take memory span)
memory-after_take memory span align m some place =
    let within = within-place memory.marks span.frames align span.first some place in
    let r = replaces-with_marks memory.marks span (marks_of span) within
    (length-marks_of span some) in
    let long = length-replicate span.frames false in
    let marks = m.frames in
    let bits = m.bits in
    let w = writes-written memory.excluded span.first (replicate span.frames false) (omega arith) in
    let held = held-with_span memory.marks span align some place m.pool in
    let after = after_take memory span in
    record {
      pool = pool-with_span memory.marks span align some place m.pool;
      frames = r.long ∙ m.frames;
      bits = w.long ∙ m.bits;
      size = m.size;
      free_is_excluded = λ frame free. elim (cases_lt frame span.first) [
        | inl l ↦ w.below frame l ∙ m.free_is_excluded frame (sym (r.below frame l) ∙ free)
        | inr l ↦ elim (cases_lt frame (end_of span)) [
          | inl h ↦ absurd (held-not_free after span frame held l h free)
          | inr h ↦ w.above frame (omega arith)
              ∙ m.free_is_excluded frame (sym (r.above frame h) ∙ free)
        ]
      ];
      free_is_zero = λ frame free. elim (cases_lt frame span.first) [
        | inl l ↦ m.free_is_zero frame (sym (r.below frame l) ∙ free)
        | inr l ↦ elim (cases_lt frame (end_of span)) [
          | inl h ↦ absurd (held-not_free after span frame held l h free)
          | inr h ↦ m.free_is_zero frame (sym (r.above frame h) ∙ free)
        ]
      ];
    }

-- what is taken was free, so it is zero
pub zero-after_take : (memory : Contents) (span : Span) (align : ℕ) → IsMemory memory
    → 1 ≤ span.frames → IsPlace memory.marks span.frames align span.first
    → bytes_of (after_take memory span) span ≡ replicate (first_byte span.frames) 0
zero-after_take memory span align m some place =
    let within = within-place memory.marks span.frames align span.first some place in
    let size = size_by_marks memory m in
    let long = length-part memory.bytes (first_byte span.first) (first_byte span.frames)
    (omega arith) in
    same_at_each _ _ (long ∙ sym (length-replicate (first_byte span.frames) 0))
    (λ k h.
    let here : k < first_byte span.frames = omega arith in
    let at : ℕ = first_byte span.first + k in
    slice_get-part memory.bytes (first_byte span.first) (first_byte span.frames) k at here refl
    ∙ m.free_is_zero (frame_of at)
    (free-place memory.marks span.frames align span.first place (frame_of at) (omega arith)
    (omega arith)) at refl
    ∙ sym (slice_get-replicate (first_byte span.frames) 0 k here))

-- a span given back

pub memory-after_give : (memory : Contents) (span : Span) → IsMemory memory
    → Holds memory.marks span → IsMemory (after_give memory span)
memory-after_give memory span m held =
    let within = held_within memory.marks span held in
    let r = replaces-with_marks memory.marks span (replicate span.frames Free) within
    (length-replicate span.frames Free) in
    let long = length-replicate span.frames true in
    let long_zeros = length-replicate {A = ℕ} (first_byte span.frames) 0 in
    let marks = m.frames in
    let bits = m.bits in
    let size = size_by_marks memory m in
    let w = writes-written memory.excluded span.first (replicate span.frames true) (omega arith) in
    let z = writes-written memory.bytes (first_byte span.first)
    (replicate (first_byte span.frames) 0) (omega arith) in
    record {
      pool = pool-without_span memory.marks span held m.pool;
      frames = r.long ∙ m.frames;
      bits = w.long ∙ m.bits;
      size = z.long ∙ m.size;
      free_is_excluded = λ frame free. elim (cases_lt frame span.first) [
        | inl l ↦ w.below frame l ∙ m.free_is_excluded frame (sym (r.below frame l) ∙ free)
        | inr l ↦ elim (cases_lt frame (end_of span)) [
          | inl h ↦ w.inside (frame - span.first) frame (omega arith) (omega arith)
              ∙ slice_get-replicate span.frames true (frame - span.first) (omega arith)
          | inr h ↦ w.above frame (omega arith)
              ∙ m.free_is_excluded frame (sym (r.above frame h) ∙ free)
        ]
      ];
      free_is_zero = λ frame free address e. elim (cases_lt frame span.first) [
        | inl l ↦ z.below address (omega arith)
            ∙ m.free_is_zero frame (sym (r.below frame l) ∙ free) address e
        | inr l ↦ elim (cases_lt frame (end_of span)) [
          | inl h ↦ z.inside (address - first_byte span.first) address (omega arith) (omega arith)
              ∙ slice_get-replicate (first_byte span.frames) 0 (address - first_byte span.first)
              (omega arith)
          | inr h ↦ z.above address (omega arith)
              ∙ m.free_is_zero frame (sym (r.above frame h) ∙ free) address e
        ]
      ];
    }

-- memory as it is made, and after a power cycle

frame_count-small : frame_count < 2 ^ 32
unfolding frame_count
frame_count-small = lit< tt

pub memory-blank : IsMemory blank
memory-blank =
    let long = length-replicate frame_count Free in
    record {
      pool = pool-replicate frame_count frame_count-small;
      frames = length-replicate frame_count Free;
      bits = length-replicate frame_count true;
      size = length-replicate (first_byte frame_count) 0;
      free_is_excluded = λ frame free.
          let within = slice_get_within (replicate frame_count Free) frame Free free in
          slice_get-replicate frame_count true frame (omega arith);
      free_is_zero = λ frame free address e.
          let within = slice_get_within (replicate frame_count Free) frame Free free in
          slice_get-replicate (first_byte frame_count) 0 address (omega arith);
    }

pub memory-after_power_cycle : (memory : Contents) → IsMemory memory
    → IsMemory (after_power_cycle memory)
memory-after_power_cycle memory m = record {
  pool = m.pool;
  frames = m.frames;
  bits = length-map memory.marks is_free ∙ m.frames;
  size = length-replicate (first_byte frame_count) 0;
  free_is_excluded = λ frame free. slice_get-map is_free memory.marks frame
      ∙ ap (option_map is_free) free;
  free_is_zero = λ frame free address e.
      let within = slice_get_within memory.marks frame Free free in
      let marks = m.frames in
      slice_get-replicate (first_byte frame_count) 0 address (omega arith);
}
