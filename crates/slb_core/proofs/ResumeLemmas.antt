-- What a host finds at the resume, from what its session answered.
use Rattle.std.proofs.Common.{◌≡◌, ℕ, ◌+◌, ◌≤◌, List, [], ◌∷◌, length, replicate, slice_get, sym, refl, ap, subst, ◌∙◌, inl, inr, arith, Bool, true, false, Option, Some, None, Result, Ok, Err}
use Rattle.std.specs.Prelude.{IfSome, IfOk}
use Rattle.std.proofs.lemmas.Bool.{cases_lt, cases_Bool}
use Rattle.std.proofs.lemmas.List.{length-replicate}
use Rattle.flk_base.specs.Stop.{Fused}
use Rattle.region_pool.specs.Spans.{Span, HasFrame}
use Rattle.machine_memory.specs.Writes.{part, written}
use Rattle.machine_memory.specs.Contents.{Contents, IsMemory, first_byte, frame_of}
use Rattle.machine_memory.specs.Areas.{IsArea, region_frames, region_of, guarded}
use Rattle.machine_memory.specs.ArmedWrites.{Armed}
use Rattle.machine_memory.specs.DeviceWrites.{may_write}
use Rattle.machine_memory.proofs.MemoryLemmas.{size_by_bits}
use Rattle.machine_memory.proofs.Pieces.{writes-written, written-nothing}
use Rattle.seal_device.specs.Commands.{act, costs}
use Rattle.seal_device.specs.Digests.{DigestDevice, digests}
use Rattle.late_launch.specs.Boards.{DarkParts}
use Rattle.late_launch.specs.Regions.{region_bytes, around, output_page, page, with_outputs}
use Rattle.late_launch.specs.States.{SuspendedParts, LaunchedParts, ClosedParts, launched, session_device}
use Rattle.late_launch.proofs.Sizes.{region_frames_are}
use Rattle.late_launch.proofs.Apart.{AreApart, written-over, part-written, part-apart}
use Rattle.late_launch.proofs.RegionLemmas.{Inside, inside_memory, region_size_is, page_long, cleared_around, apart_from_region}
use Rattle.slb_core.specs.Pal.{Permits, PalEnd, permits_at, after_write}
use Rattle.slb_core.specs.Spans.{around_with}
use Rattle.slb_core.specs.Sessions.{serving, setting_of, serve_answer, CountsOutputs}
use Rattle.slb_core.specs.Resume.{writes_until, after_each, IsElsewhere, AtResume, served, Resumes, ResumesHost}
use Rattle.slb_core.proofs.WriteLemmas.{IsApart, AreSameApart, LiesWithin, EndsSo, each_apart, over_apart, bits_within, serving_only, only_fused}

-- ---- a part that no permitted write touches

abbrev KeepsOut : Permits → ℕ → ℕ → Type 0
KeepsOut permits from count = (at many : ℕ) → 1 ≤ many → permits at many ≡ true → AreApart at many from count

record IsKept (size from count : ℕ) (before after : List ℕ) : Type 0 where
  long : length after ≡ size
  kept : part after from count ≡ part before from count

permitted_keeps : (permits : Permits) (size from count at : ℕ) (bytes piece : List ℕ) → LiesWithin permits size → KeepsOut permits from count → length bytes ≡ size → from + count ≤ size
    → permits at (length piece) ≡ true → IsKept size from count bytes (written bytes at piece)
permitted_keeps permits size from count at bytes [] within out long fits may = rw (written-nothing bytes at) (record { long = long; kept = refl })
permitted_keeps permits size from count at bytes (byte ∷ piece) within out long fits may =
    let there = within at (length (byte ∷ piece)) (omega arith) may in
    let w = writes-written bytes at (byte ∷ piece) (omega arith) in
    record {
      long = w.long ∙ long;
      kept = part-apart bytes at from count (byte ∷ piece) (out at (length (byte ∷ piece)) (omega arith) may) (omega arith) (omega arith);
    }

write_keeps : (permits : Permits) (size from count : ℕ) (write : Armed) (bytes : List ℕ) → LiesWithin permits size → KeepsOut permits from count → length bytes ≡ size → from + count ≤ size
    → IsKept size from count bytes (after_write permits bytes write)
write_keeps permits size from count write bytes within out long fits =
    elim (cases_Bool (permits write.at (length write.bytes))) [
      | inl may ↦ rw may (permitted_keeps permits size from count write.at bytes write.bytes within out long fits may)
      | inr refused ↦ rw refused (record { long = long; kept = refl })
    ]

each_keeps : (permits : Permits) (size from count : ℕ) (writes : List Armed) (bytes : List ℕ) → LiesWithin permits size → KeepsOut permits from count → length bytes ≡ size → from + count ≤ size
    → IsKept size from count bytes (after_each permits bytes writes)
each_keeps permits size from count [] bytes within out long fits = record { long = long; kept = refl }
each_keeps permits size from count (write ∷ writes) bytes within out long fits =
    let one = write_keeps permits size from count write bytes within out long fits in
    let rest = each_keeps permits size from count writes (after_write permits bytes write) within out one.long fits in
    record { long = rest.long; kept = rest.kept ∙ one.kept }

-- ---- places in an area

-- a frame that is none of the region's
frame_apart : (area : Span) (frame : ℕ) → ¬ HasFrame (region_of area) frame → IsApart area.first (area.first + 16) frame
frame_apart area frame outside =
    let frames = region_frames_are in
    elim (cases_lt frame area.first) [
      | inl below ↦ inl below
      | inr from ↦ elim (cases_lt frame (area.first + 16)) [
        | inl before ↦ absurd (outside (record { begun = from; unended = omega arith }))
        | inr above ↦ inr above
      ]
    ]

-- a byte of such a frame
byte_apart : (area : Span) (address : ℕ) → IsElsewhere area address → IsApart (first_byte area.first) (first_byte area.first + 65536) address
byte_apart area address elsewhere =
    elim (frame_apart area (frame_of address) elsewhere.region) [
      | inl below ↦ inl (omega arith)
      | inr above ↦ inr (omega arith)
    ]

-- and one that is none of the output page's
byte_beside : (area : Span) (address : ℕ) → IsElsewhere area address → IsApart (output_page area) (output_page area + 4096) address
byte_beside area address elsewhere =
    elim (cases_lt address (output_page area)) [
      | inl below ↦ inl below
      | inr from ↦ elim (cases_lt address (output_page area + 4096)) [
        | inl before ↦ absurd (elsewhere.outputs (let e : frame_of address ≡ area.first + 17 = omega arith in e))
        | inr above ↦ inr above
      ]
    ]

-- ---- the resume

module _ (host : SuspendedParts) (measured : Fused DigestDevice) (m : IsMemory host.board.memory) (placed : IsArea host.board.memory.marks host.area) where
  abbrev memory : Contents
  memory = host.board.memory

  abbrev area : Span
  area = host.area

  abbrev session : LaunchedParts
  session = launched host measured

  abbrev permits : Permits
  permits = permits_at (around memory area) area

  inside : Inside memory area
  inside = inside_memory memory area m placed

  zeros_long : length (replicate {A = ℕ} (first_byte region_frames) 0) ≡ 65536
  zeros_long = length-replicate {A = ℕ} (first_byte region_frames) 0 ∙ region_size_is

  -- what is permitted around the region is what is permitted in memory
  same_bits : (guarded (around memory area) area).excluded ≡ (guarded memory area).excluded
  same_bits =
      let bits = inside.bits in
      let frames = region_frames_are in
      let shut_long = length-replicate region_frames true in
      let open_long = length-replicate region_frames false in
      written-over memory.excluded area.first (replicate region_frames false) (replicate region_frames true) (omega arith) (omega arith)

  same_permits : permits ≡ permits_at memory area
  same_permits = ap (λ (bits : List Bool). may_write bits) same_bits

  bits_long : length (guarded memory area).excluded ≡ length memory.excluded
  bits_long =
      let bits = inside.bits in
      let frames = region_frames_are in
      let shut_long = length-replicate region_frames true in
      let w = writes-written memory.excluded area.first (replicate region_frames true) (omega arith) in
      w.long

  within : LiesWithin permits (length memory.bytes)
  within = rw same_permits (bits_within (guarded memory area).excluded (length memory.bytes) (size_by_bits memory m ∙ ap (λ (n : ℕ). first_byte n) (sym bits_long)))

  -- a region that is guarded twice is guarded
  guarded_twice : guarded (guarded memory area) area ≡ guarded memory area
  guarded_twice =
      let bits = inside.bits in
      let frames = region_frames_are in
      let shut_long = length-replicate region_frames true in
      ap (λ (excluded : List Bool). record memory { excluded = excluded })
      (written-over memory.excluded area.first (replicate region_frames true) (replicate region_frames true) refl (omega arith))

  keeps_out : KeepsOut permits (first_byte area.first) 65536
  keeps_out = rw same_permits (λ at many some may.
      let bits = inside.bits in
      let long = bits_long in
      apart_from_region (guarded memory area) area at many (record { bytes = inside.bytes; bits = omega arith }) guarded_twice some may)

  -- the region is zero around it
  same_around : AreSameApart (length memory.bytes) (first_byte area.first) (first_byte area.first + 65536) (around memory area).bytes memory.bytes
  same_around =
      let fits = inside.bytes in
      let long = zeros_long in
      over_apart (length memory.bytes) (first_byte area.first) (first_byte area.first + 65536) memory.bytes (replicate (first_byte region_frames) 0) refl (omega arith) (omega arith)

  module _ (writes : List Armed) (ended : PalEnd) (done : EndsSo permits (around memory area).bytes writes ended) (few : length ended.outputs ≤ 4096) where
    abbrev bytes : List ℕ
    bytes = ended.outside.bytes

    all : AreSameApart (length memory.bytes) (first_byte area.first) (first_byte area.first + 65536) (after_each permits (around memory area).bytes (writes_until ended.turns writes)) (after_each permits memory.bytes (writes_until ended.turns writes))
    all = each_apart permits (length memory.bytes) (first_byte area.first) (first_byte area.first + 65536) (writes_until ended.turns writes) (around memory area).bytes memory.bytes within same_around

    long : length bytes ≡ length memory.bytes
    long = ap (λ (xs : List ℕ). length xs) done.bytes_are ∙ all.some_long

    abbrev after : Contents
    after = with_outputs (around_with session bytes) area ended.outputs

    zero : region_bytes after area ≡ replicate (first_byte region_frames) 0
    zero =
        let fits = inside.bytes in
        let whole = long in
        let size = region_size_is in
        let page_is = page_long ended.outputs few in
        let kept = each_keeps permits (length memory.bytes) (first_byte area.first) 65536 (writes_until ended.turns writes) (around memory area).bytes within keeps_out same_around.some_long (omega arith) in
        part-apart bytes (output_page area) (first_byte area.first) (first_byte region_frames) (page ended.outputs) (inr (omega arith)) (omega arith) (omega arith)
        ∙ ap (λ (xs : List ℕ). part xs (first_byte area.first) (first_byte region_frames)) done.bytes_are
        ∙ subst (λ (n : ℕ). part (after_each permits (around memory area).bytes (writes_until ended.turns writes)) (first_byte area.first) n ≡ part (around memory area).bytes (first_byte area.first) n) (sym region_size_is) kept.kept
        ∙ (cleared_around memory area inside).zero

    resumes : (device : DigestDevice) (fuse : Option ℕ) → AtResume host.board (record { device = device; memory = after; registers = host.board.registers; fuse = fuse }) area ended.outputs writes ended.turns
    resumes device fuse =
        let fits = inside.bytes in
        let whole = long in
        let page_is = page_long ended.outputs few in
        let w = writes-written bytes (output_page area) (page ended.outputs) (omega arith) in
        record {
          registers = refl;
          region = record { zero = zero; open_again = (cleared_around memory area inside).open_again };
          output_page = part-written bytes (output_page area) 4096 (page ended.outputs) page_is (omega arith);
          others = λ address elsewhere.
              (elim (byte_beside area address elsewhere) [
                | inl below ↦ w.below address below
                | inr above ↦ w.above address (omega arith)
              ])
              ∙ ap (λ (xs : List ℕ). slice_get xs address) done.bytes_are
              ∙ all.same address (byte_apart area address elsewhere)
              ∙ ap (λ (p : Permits). slice_get (after_each p memory.bytes (writes_until ended.turns writes)) address) same_permits;
          marks = refl;
          excluded = λ frame outside. open_elsewhere frame (frame_apart area frame outside);
        }
      where
        open_elsewhere : (frame : ℕ) → IsApart area.first (area.first + 16) frame → slice_get (around memory area).excluded frame ≡ slice_get memory.excluded frame
        open_elsewhere frame apart =
            let bits = inside.bits in
            let frames = region_frames_are in
            let open_long = length-replicate region_frames false in
            let w = writes-written memory.excluded area.first (replicate region_frames false) (omega arith) in
            elim apart [
              | inl below ↦ w.below frame below
              | inr above ↦ w.above frame (omega arith)
            ]

  resumes_so : (writes : List Armed) (end : Fused DigestDevice × Option PalEnd) (closed : ClosedParts) → IfSome end.1 (EndsSo permits (around memory area).bytes writes)
      → serve_answer session end ≡ Ok closed → CountsOutputs end → Resumes host writes closed end
  resumes_so writes (f, None) closed done is few = tt
  resumes_so writes (f, Some ended) closed done is few =
      let same : ◌≡◌ {A = ClosedParts} (record { saved = session.saved; memory = with_outputs (around_with session ended.outside.bytes) area ended.outputs; device = f.state; fuse = f.fuse; area = area; end = ended.end; turns = ended.turns }) closed =
      (let both : ◌≡◌ {A = Result ClosedParts DarkParts} (Ok _) (Ok closed) = is in cc) in
      rw (← same) (resumes writes ended done few.1 f.state f.fuse)

pub resume : (host : SuspendedParts) (measured : Fused DigestDevice) (count : ℕ) (nonce : List ℕ) (writes : List Armed) (closed : ClosedParts)
    → IsMemory host.board.memory → IsArea host.board.memory.marks host.area
    → serve_answer (launched host measured) (served (launched host measured) count nonce writes) ≡ Ok closed
    → CountsOutputs (served (launched host measured) count nonce writes)
    → Resumes host writes closed (served (launched host measured) count nonce writes)
resume host measured count nonce writes closed m placed is few =
    let session = launched host measured in
    resumes_so host measured m placed writes (served session count nonce writes) closed
    (only_fused costs (act digests) (EndsSo (setting_of session).permits (setting_of session).bytes writes) (serving (setting_of session) count nonce writes) (session_device session) (serving_only (setting_of session) count nonce writes))
    is few

-- a session that answered so resumes each host of which its launch was made
module _ (count : ℕ) (nonce : List ℕ) (writes : List Armed) (answer : Result ClosedParts DarkParts) where
  of_host : (host : SuspendedParts) (measured : Fused DigestDevice) → IsMemory host.board.memory → IsArea host.board.memory.marks host.area
      → (given : Result ClosedParts DarkParts) → given ≡ serve_answer (launched host measured) (served (launched host measured) count nonce writes)
      → CountsOutputs (served (launched host measured) count nonce writes)
      → IfOk given (λ closed. Resumes host writes closed (served (launched host measured) count nonce writes))
  of_host host measured m placed (Err dark) is few = tt
  of_host host measured m placed (Ok closed) is few = resume host measured count nonce writes closed m placed (sym is) few

  pub resumes_host : (begun : LaunchedParts) → answer ≡ serve_answer begun (served begun count nonce writes) → CountsOutputs (served begun count nonce writes)
      → ResumesHost begun writes (served begun count nonce writes) answer
  resumes_host begun is few = λ host measured made m placed.
      let back = subst (λ (s : LaunchedParts). answer ≡ serve_answer s (served s count nonce writes)) made is in
      let counted = subst (λ (s : LaunchedParts). CountsOutputs (served s count nonce writes)) made few in
      subst (λ (s : LaunchedParts). IfOk answer (λ closed. Resumes host writes closed (served s count nonce writes))) (sym made)
      (of_host host measured m placed answer back counted)
