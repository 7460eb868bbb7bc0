-- An area that was taken for a session, and what it holds.
use Rattle.std.proofs.Common.{◌≡◌, ℕ, ◌+◌, ◌-◌, ◌<◌, ◌≤◌, List, ◌++◌, length, replicate, take, refl, ap, ◌∙◌, inr, arith, Bool, true, false, Option, Some, None, Ok, Err, slice_get}
use Rattle.std.proofs.lemmas.Bool.{le-leb}
use Rattle.std.proofs.lemmas.List.{length-replicate, get_or_append_left, take_at}
use Rattle.flk_base.specs.Stop.{Fused}
use Rattle.slb_image.specs.Fields.{length_field}
use Rattle.slb_image.specs.Faults.{image_fault}
use Rattle.slb_image.proofs.Checked.{passes}
use Rattle.region_pool.specs.declared.mark.Mark.{Mark}
use Rattle.region_pool.specs.declared.mark.Mark.TheVariants.{Free}
use Rattle.region_pool.specs.declared.ticket.Purpose.{Purpose}
use Rattle.region_pool.specs.declared.ticket.Purpose.TheVariants.{Launch}
use Rattle.region_pool.specs.Places.{IsPlace}
use Rattle.region_pool.specs.Spans.{Span, with_span, without_span, marks_of}
use Rattle.region_pool.proofs.Search.{free-place, within-place}
use Rattle.region_pool.proofs.HeldSpans.{length-marks_of}
use Rattle.machine_memory.specs.Writes.{part, written}
use Rattle.machine_memory.specs.Contents.{Contents, IsMemory, first_byte, frame_of}
use Rattle.machine_memory.specs.Spans.{after_take}
use Rattle.machine_memory.specs.Areas.{region_frames, guarded}
use Rattle.machine_memory.specs.ArmedWrites.{Armed}
use Rattle.flk_base.specs.Plan.{Plan, Ask}
use Rattle.seal_device.specs.Commands.{Command, Measure, Reply}
use Rattle.seal_device.specs.Digests.{DigestDevice}
use Rattle.late_launch.specs.Boards.{BoardParts}
use Rattle.late_launch.specs.Regions.{input_page, region_bytes, around}
use Rattle.late_launch.specs.States.{image_in, has_image}
use Rattle.late_launch.proofs.Sizes.{region_frames_are}
use Rattle.late_launch.proofs.RegionLemmas.{region_size_is}
use Rattle.late_launch.proofs.Apart.{written-over, written-commutes, part-apart}
use Rattle.slb_core.specs.Pal.{PalEnd}
use Rattle.slb_core.specs.Sessions.{Setting, serving}
use Rattle.session_driver.specs.declared.driver.SessionEnd.TheVariants.{Ended}
use Rattle.session_driver.specs.Sessions.{area_at, region_with, setting_in, session_plan, wiped}
use Rattle.session_driver.specs.Filled.{filled, setting_at, plan_at, answer_at}
use Rattle.session_driver.specs.Answers.{ended_answer}
use Rattle.session_driver.proofs.Pieces.{covers, written-there, part-piece, length-written, with_marks-written}

-- ---- images

-- what stands after an image does not change what it says of its length
length_then : (bytes rest : List ℕ) → 4 ≤ length bytes → length_field (bytes ++ rest) ≡ length_field bytes
length_then bytes rest long = rw (get_or_append_left bytes rest 0 2 (omega arith), get_or_append_left bytes rest 0 3 (omega arith)) refl

-- an image at the beginning of a region is the image in it
pub record HoldsImage (region image : List ℕ) : Type 0 where
  pub found : has_image region ≡ true
  pub same : image_in region ≡ image

pub image_short : (image : List ℕ) → image_fault image ≡ None → length image ≤ 49152
image_short image none = let p = passes image none in let most = p.most in let whole = p.whole in omega arith

pub holds_image : (image rest : List ℕ) → image_fault image ≡ None → HoldsImage (image ++ rest) image
holds_image image rest none =
    let p = passes image none in
    let front = p.front in
    let most = p.most in
    let whole = p.whole in
    let field : length_field (image ++ rest) ≡ length image = length_then image rest (omega arith) ∙ whole in
    let same : image_in (image ++ rest) ≡ image = ap (λ (n : ℕ). take n (image ++ rest)) field ∙ take_at image rest (length image) refl in
    record {
      found = rw (field, take_at image rest (length image) refl, none, le-leb (length image) 49152 (omega arith)) refl;
      same = same;
    }

-- ---- an area that was free

module _ (memory : Contents) (first : ℕ) (m : IsMemory memory) (place : IsPlace memory.marks 18 16 first) where
  within : first + 18 ≤ length memory.marks
  within = within-place memory.marks 18 16 first (omega arith) place

  zero_there : (k : ℕ) → first_byte first ≤ k → k < first_byte first + 73728 → slice_get memory.bytes k ≡ Some 0
  zero_there k low high = m.free_is_zero (frame_of k) (free-place memory.marks 18 16 first place (frame_of k) (omega arith) (omega arith)) k refl

  shut_there : (k : ℕ) → first ≤ k → k < first + 18 → slice_get memory.excluded k ≡ Some true
  shut_there k low high = m.free_is_excluded k (free-place memory.marks 18 16 first place k low high)

  free_there : (k : ℕ) → first ≤ k → k < first + 18 → slice_get memory.marks k ≡ Some Free
  free_there k low high = free-place memory.marks 18 16 first place k low high

  bytes_fit : first_byte first + 73728 ≤ length memory.bytes
  bytes_fit = let marks = m.frames in let size = m.size in let fits = within in omega arith

  bits_fit : first + 18 ≤ length memory.excluded
  bits_fit = let marks = m.frames in let bits = m.bits in let fits = within in omega arith

  abbrev area : Span
  area = area_at first

  module _ (image inputs : List ℕ) (none : image_fault image ≡ None) (few : length inputs ≤ 4096) where
    abbrev full : Contents
    full = filled (after_take memory area) area image inputs

    pub region_holds : region_bytes full area ≡ region_with image
    region_holds =
        let short = image_short image none in
        let fits = bytes_fit in
        let size = region_size_is in
        let one_long = length-written memory.bytes (first_byte first) image (omega arith) in
        part-apart (written memory.bytes (first_byte first) image) (input_page area) (first_byte first) (first_byte region_frames) inputs (inr (omega arith)) (omega arith) (omega arith)
        ∙ ap (λ (n : ℕ). part (written memory.bytes (first_byte first) image) (first_byte first) n) region_size_is
        ∙ part-piece memory.bytes (first_byte first) 65536 image 0 (omega arith) (omega arith) (λ k low high. zero_there k low (omega arith))

    pub bytes_around : (around full area).bytes ≡ written memory.bytes (input_page area) inputs
    bytes_around =
        let short = image_short image none in
        let fits = bytes_fit in
        let size = region_size_is in
        let start : ℕ = first_byte first in
        let zeros : List ℕ = replicate (first_byte region_frames) 0 in
        let zeros_long : length zeros ≡ 65536 = length-replicate {A = ℕ} (first_byte region_frames) 0 ∙ region_size_is in
        let one_long = length-written memory.bytes start image (omega arith) in
        written-commutes (written memory.bytes start image) (input_page area) start inputs zeros (inr (omega arith)) (omega arith) (omega arith)
        ∙ ap (λ (xs : List ℕ). written xs (input_page area) inputs)
        (covers memory.bytes start image zeros (omega arith) (omega arith)
        ∙ written-there memory.bytes start (first_byte region_frames) 0 (omega arith) (λ k low high. zero_there k low (omega arith)))

    pub permits_around : (guarded (around full area) area).excluded ≡ (guarded (after_take memory area) area).excluded
    permits_around =
        let fits = bits_fit in
        let frames = region_frames_are in
        let open_long = length-replicate region_frames false in
        let shut_long = length-replicate region_frames true in
        let taken_long = length-replicate {A = Bool} 18 false in
        let one_long = length-written memory.excluded first (replicate 18 false) (omega arith) in
        written-over (written memory.excluded first (replicate 18 false)) first (replicate region_frames false) (replicate region_frames true) (omega arith) (omega arith)

    pub same_setting : setting_at full area ≡ setting_in memory first image inputs
    same_setting =
        let holds = holds_image image (replicate (65536 - length image) 0) none in
        rw (permits_around, region_holds, bytes_around, holds.same) refl

  -- the marks and the exclusion bits once it was given back
  pub marks_back : without_span (with_span memory.marks area) area ≡ memory.marks
  marks_back =
      let fits = within in
      let free_long = length-replicate {A = Mark} 18 Free in
      let span_long : length (marks_of area) ≡ 18 = length-marks_of area (omega arith) in
      let one_long = length-written memory.marks first (marks_of area) (omega arith) in
      with_marks-written (with_span memory.marks area) first 18 (replicate 18 Free) free_long
      ∙ ap (λ (xs : List Mark). written xs first (replicate 18 Free)) (with_marks-written memory.marks first 18 (marks_of area) span_long)
      ∙ written-over memory.marks first (marks_of area) (replicate 18 Free) (omega arith) (omega arith)
      ∙ written-there memory.marks first 18 Free fits free_there

  pub bits_back : (bits : List Bool) → length bits ≤ 18 → written (written (written memory.excluded first (replicate 18 false)) first bits) first (replicate 18 true) ≡ memory.excluded
  bits_back bits few =
      let fits = bits_fit in
      let open_long = length-replicate {A = Bool} 18 false in
      let shut_long = length-replicate {A = Bool} 18 true in
      let one_long = length-written memory.excluded first (replicate 18 false) (omega arith) in
      covers (written memory.excluded first (replicate 18 false)) first bits (replicate 18 true) (omega arith) (omega arith)
      ∙ covers memory.excluded first (replicate 18 false) (replicate 18 true) (omega arith) (omega arith)
      ∙ written-there memory.excluded first 18 true fits shut_there

-- memory of these parts
same_memory : (bytes : List ℕ) (marks marks' : List Mark) (excluded excluded' : List Bool) → marks ≡ marks' → excluded ≡ excluded'
    → ◌≡◌ {A = Contents} (record { bytes = bytes; marks = marks; excluded = excluded }) (record { bytes = bytes; marks = marks'; excluded = excluded' })
same_memory bytes marks marks' excluded excluded' m e = rw (m, e) refl

-- ---- the session, from the board before the area was taken

module _ (board : BoardParts) (first : ℕ) (m : IsMemory board.memory) (place : IsPlace board.memory.marks 18 16 first) (image inputs : List ℕ) (none : image_fault image ≡ None) (few : length inputs ≤ 4096) where
  -- the board whose area is filled
  abbrev pub filled_board : BoardParts
  filled_board = record board { memory = filled (after_take board.memory (area_at first)) (area_at first) image inputs }

  pub holds : HoldsImage (region_bytes filled_board.memory (area_at first)) image
  holds = rw (region_holds board.memory first m place image inputs none few) (holds_image image (replicate (65536 - length image) 0) none)

  pub same_plan : (count : ℕ) (nonce : List ℕ) (writes : List Armed) → count ≡ length inputs
      → plan_at filled_board.memory (area_at first) count nonce writes ≡ session_plan (setting_in board.memory first image inputs) image inputs nonce writes
  same_plan count nonce writes is =
      ap (λ (xs : List ℕ). Ask (Measure xs) (λ done. serving (setting_at filled_board.memory (area_at first)) count nonce writes)) holds.same
      ∙ ap (λ (setting : Setting). session_plan_of setting image count nonce writes) (same_setting board.memory first m place image inputs none few)
      ∙ ap (λ (n : ℕ). session_plan_of (setting_in board.memory first image inputs) image n nonce writes) is
    where
      session_plan_of : Setting → List ℕ → ℕ → List ℕ → List Armed → Plan Command Reply PalEnd
      session_plan_of setting image count nonce writes = Ask (Measure image) (λ done. serving setting count nonce writes)

  pub same_answer : (ended : Fused DigestDevice × Option PalEnd) → answer_at filled_board (area_at first) ended ≡ ended_answer board first ended
  same_answer (f, None) =
      ap (λ (marks : List Mark). Err (record { device = f.state; marks = marks })) (marks_back board.memory first m place)
  same_answer (f, Some p) =
      let frames = region_frames_are in
      let long = length-replicate region_frames false in
      ap (λ (memory : Contents). Ok (record { device = f.state; memory = memory; registers = board.registers; fuse = f.fuse }, Ended p.end p.turns))
      (same_memory (wiped first p.outside.bytes) _ _ _ _ (marks_back board.memory first m place) (bits_back board.memory first m place (replicate region_frames false) (omega arith)))

-- a span of 18 frames that serves a launch is the area at its first frame
pub same_area : (span : Span) → span.frames ≡ 18 → span.purpose ≡ Launch → span ≡ area_at span.first
same_area span frames purpose = ap (λ (n : ℕ). record span { frames = n }) frames ∙ ap (λ (p : Purpose). record (area_at span.first) { purpose = p }) purpose
