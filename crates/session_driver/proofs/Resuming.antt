-- What a host finds after a session, from what the session answered.
use Rattle.std.proofs.Common.{◌≡◌, ℕ, ◌+◌, ◌≤◌, List, length, replicate, slice_get, sym, refl, ap, ◌∙◌, inl, inr, arith, Bool, true, false, Option, Some, None}
use Rattle.std.specs.Prelude.{IfSome, MatchOption}
use Rattle.std.proofs.lemmas.Bool.{cases_lt}
use Rattle.std.proofs.lemmas.List.{length-replicate}
use Rattle.flk_base.specs.Stop.{Fused}
use Rattle.region_pool.specs.Spans.{HasFrame}
use Rattle.region_pool.specs.Places.{IsPlace, IsLowestPlace, HasNoPlace, place}
use Rattle.region_pool.proofs.Search.{within-place}
use Rattle.machine_memory.specs.Writes.{written}
use Rattle.machine_memory.specs.Contents.{Contents, IsMemory, first_byte, frame_of}
use Rattle.machine_memory.specs.Spans.{after_take}
use Rattle.machine_memory.specs.Areas.{region_frames, guarded}
use Rattle.machine_memory.specs.ArmedWrites.{Armed}
use Rattle.machine_memory.proofs.MemoryLemmas.{size_by_bits}
use Rattle.seal_device.specs.Commands.{act, costs}
use Rattle.seal_device.specs.Digests.{DigestDevice, digests}
use Rattle.late_launch.specs.Boards.{BoardParts, fused_device}
use Rattle.late_launch.specs.Regions.{input_page}
use Rattle.late_launch.proofs.Sizes.{region_frames_are}
use Rattle.late_launch.proofs.Apart.{part-written}
use Rattle.slb_core.specs.Pal.{Permits, PalEnd}
use Rattle.slb_core.specs.Sessions.{Setting}
use Rattle.slb_core.specs.Resume.{writes_until}
use Rattle.slb_core.proofs.WriteLemmas.{IsApart, AreSameApart, LiesWithin, EndsSo, each_apart, over_apart, bits_within, serving_only, only_fused}
use Rattle.session_driver.specs.Sessions.{area_at, permits_in, setting_in, session_plan}
use Rattle.session_driver.specs.Answers.{placed, ran_at, board_after, ended_answer, answer_of, ended_leaves, LeavesBeside}
use Rattle.session_driver.specs.Resume.{AfterSession, HostFinds}
use Rattle.session_driver.proofs.Pieces.{length-written}

-- a byte of a frame that is none of an area's
byte_apart : (first address : ℕ) → ¬ HasFrame (area_at first) (frame_of address) → IsApart (first_byte first) (first_byte first + 73728) address
byte_apart first address outside =
    elim (cases_lt address (first_byte first)) [
      | inl below ↦ inl below
      | inr from ↦ elim (cases_lt address (first_byte first + 73728)) [
        | inl before ↦ absurd (outside (record { begun = omega arith; unended = omega arith }))
        | inr above ↦ inr above
      ]
    ]

module _ (board : BoardParts) (first : ℕ) (m : IsMemory board.memory) (lowest : place board.memory.marks 18 16 ≡ Some first) (free : IsPlace board.memory.marks 18 16 first) where
  abbrev memory : Contents
  memory = board.memory

  abbrev permits : Permits
  permits = permits_in memory (area_at first)

  fits : first_byte first + 73728 ≤ length memory.bytes
  fits =
      let there = within-place memory.marks 18 16 first (omega arith) free in
      let marks = m.frames in
      let size = m.size in
      omega arith

  bits_long : length (guarded (after_take memory (area_at first)) (area_at first)).excluded ≡ length memory.excluded
  bits_long =
      let there = within-place memory.marks 18 16 first (omega arith) free in
      let marks = m.frames in
      let bits = m.bits in
      let frames = region_frames_are in
      let open_long = length-replicate {A = Bool} 18 false in
      let shut_long = length-replicate region_frames true in
      let taken = length-written memory.excluded first (replicate 18 false) (omega arith) in
      length-written (written memory.excluded first (replicate 18 false)) first (replicate region_frames true) (omega arith) ∙ taken

  within : LiesWithin permits (length memory.bytes)
  within =
      bits_within (guarded (after_take memory (area_at first)) (area_at first)).excluded (length memory.bytes)
      (size_by_bits memory m ∙ ap (λ (n : ℕ). first_byte n) (sym bits_long))

  -- the inputs lie in the area
  same_staged : (inputs : List ℕ) → length inputs ≤ 4096
      → AreSameApart (length memory.bytes) (first_byte first) (first_byte first + 73728) (written memory.bytes (input_page (area_at first)) inputs) memory.bytes
  same_staged inputs few =
      let there = fits in
      let staged = over_apart (length memory.bytes) (input_page (area_at first)) (input_page (area_at first) + length inputs) memory.bytes inputs refl refl (omega arith) in
      record {
        some_long = staged.some_long;
        other_long = refl;
        same = λ k apart. staged.same k (elim apart [
          | inl below ↦ inl (omega arith)
          | inr above ↦ inr (omega arith)
        ]);
      }

  module _ (image inputs nonce : List ℕ) (writes left : List Armed) (few : length inputs ≤ 4096) where
    abbrev setting : Setting
    setting = setting_in memory first image inputs

    finds_so : (device : Fused DigestDevice) (ended : PalEnd) → EndsSo setting.permits setting.bytes writes ended → left ≡ ended.outside.writes
        → AfterSession board (board_after board first device ended.outside.bytes) writes left ended.turns
    finds_so device ended done armed =
        let there = fits in
        let bytes = ended.outside.bytes in
        let all = each_apart permits (length memory.bytes) (first_byte first) (first_byte first + 73728) (writes_until ended.turns writes) setting.bytes memory.bytes within (same_staged inputs few) in
        let long : length bytes ≡ length memory.bytes = ap (λ (xs : List ℕ). length xs) done.bytes_are ∙ all.some_long in
        let zeros_long = length-replicate {A = ℕ} 73728 0 in
        let wiped = over_apart (length memory.bytes) (first_byte first) (first_byte first + 73728) bytes (replicate 73728 0) long (omega arith) fits in
        record {
          first = first;
          lowest = lowest;
          registers = refl;
          marks = refl;
          excluded = refl;
          wiped = part-written bytes (first_byte first) 73728 (replicate 73728 0) zeros_long (omega arith);
          others = λ address outside.
              let apart = byte_apart first address outside in
              wiped.same address apart
              ∙ ap (λ (xs : List ℕ). slice_get xs address) done.bytes_are
              ∙ all.same address apart;
          armed = armed ∙ done.writes_are;
        }

    finds_ran : (given : List ℕ) (ran : Fused DigestDevice × Option PalEnd) → IfSome ran.1 (EndsSo setting.permits setting.bytes writes) → ended_leaves ran left given
        → HostFinds board writes (ended_answer board first ran) left
    finds_ran given (f, None) done leaves = tt
    finds_ran given (f, Some ended) done leaves = finds_so f ended done leaves.armed

    finds_at : (given : List ℕ) → ended_leaves (ran_at board first image inputs nonce writes) left given
        → HostFinds board writes (ended_answer board first (ran_at board first image inputs nonce writes)) left
    finds_at given leaves =
        finds_ran given (ran_at board first image inputs nonce writes)
        (only_fused costs (act digests) (EndsSo setting.permits setting.bytes writes) (session_plan setting image inputs nonce writes) (fused_device board)
        (λ reply. serving_only setting (length inputs) nonce writes))
        leaves

-- at the place for an area, or where there is none
pub finds : (board : BoardParts) (image inputs nonce : List ℕ) (writes left : List Armed) (given : List ℕ) → IsMemory board.memory → length inputs ≤ 4096
    → (found : Option ℕ) → place board.memory.marks 18 16 ≡ found → MatchOption found (HasNoPlace board.memory.marks 18 16) (IsLowestPlace board.memory.marks 18 16)
    → LeavesBeside board image inputs nonce writes (placed found) left given
    → HostFinds board writes (answer_of board image inputs nonce writes (placed found)) left
finds board image inputs nonce writes left given m few None is none leaves = (refl, leaves.armed)
finds board image inputs nonce writes left given m few (Some first) is lowest leaves =
    finds_at board first m is lowest.place image inputs nonce writes left few given leaves
