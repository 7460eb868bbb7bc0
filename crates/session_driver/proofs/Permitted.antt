-- Which device writes a session permits, by the frames that are taken.
use Rattle.std.proofs.Common.{◌≡◌, ℕ, ◌+◌, ◌-◌, ◌<◌, ◌≤◌, List, length, replicate, get_or, slice_get, sym, ap, ◌∙◌, inl, inr, arith, Bool, true, false, Some}
use Rattle.std.proofs.lemmas.Bool.{cases_lt, cases_Bool}
use Rattle.std.proofs.lemmas.List.{length-replicate}
use Rattle.std.proofs.lemmas.Option.{slice_get-get_or, slice_get_within}
use Rattle.region_pool.specs.declared.mark.Mark.TheVariants.{Free}
use Rattle.region_pool.specs.Marks.{IsTaken}
use Rattle.region_pool.specs.Places.{IsPlace}
use Rattle.region_pool.proofs.Frames.{slice_get-replicate}
use Rattle.region_pool.proofs.FrameSpans.{taken-not_free, taken_within}
use Rattle.region_pool.proofs.Search.{free-place, within-place}
use Rattle.machine_memory.specs.Writes.{written}
use Rattle.machine_memory.specs.Contents.{Contents, IsMemory, IsFree, IsExcluded, frame_of}
use Rattle.machine_memory.specs.Areas.{region_frames}
use Rattle.machine_memory.proofs.Pieces.{Writes, writes-written}
use Rattle.machine_memory.proofs.DeviceLemmas.{may_write-true, true-may_write}
use Rattle.late_launch.proofs.Sizes.{region_frames_are}
use Rattle.slb_core.proofs.WriteLemmas.{IsApart}
use Rattle.session_driver.specs.Sessions.{area_at, permits_in}
use Rattle.session_driver.specs.Resume.{IsOpenIn}

module _ (memory : Contents) (first : ℕ) (m : IsMemory memory) (place : IsPlace memory.marks 18 16 first) (only : (frame : ℕ) → IsExcluded memory frame → IsFree memory frame) where
  fits : first + 18 ≤ length memory.excluded
  fits =
      let there = within-place memory.marks 18 16 first (omega arith) place in
      let marks = m.frames in
      let bits = m.bits in
      omega arith

  same_long : length memory.marks ≡ length memory.excluded
  same_long = m.frames ∙ sym m.bits

  abbrev open_area : List Bool
  open_area = written memory.excluded first (replicate 18 false)

  abbrev shut_region : List Bool
  shut_region = written open_area first (replicate region_frames true)

  opened : Writes memory.excluded open_area first (replicate 18 false)
  opened =
      let long = length-replicate {A = Bool} 18 false in
      let there = fits in
      writes-written memory.excluded first (replicate 18 false) (omega arith)

  shut : Writes open_area shut_region first (replicate region_frames true)
  shut =
      let long = length-replicate region_frames true in
      let frames = region_frames_are in
      let there = fits in
      let same = opened.long in
      writes-written open_area first (replicate region_frames true) (omega arith)

  -- outside of the area
  bit_apart : (frame : ℕ) → IsApart first (first + 18) frame → slice_get shut_region frame ≡ slice_get memory.excluded frame
  bit_apart frame apart =
      let long = length-replicate {A = Bool} 18 false in
      let region_long = length-replicate region_frames true in
      let frames = region_frames_are in
      elim apart [
        | inl below ↦ shut.below frame below ∙ opened.below frame below
        | inr above ↦ shut.above frame (omega arith) ∙ opened.above frame (omega arith)
      ]

  -- in the region
  bit_region : (frame : ℕ) → first ≤ frame → frame < first + 16 → slice_get shut_region frame ≡ Some true
  bit_region frame low high =
      let long = length-replicate region_frames true in
      let frames = region_frames_are in
      shut.inside (frame - first) frame (omega arith) (omega arith) ∙ slice_get-replicate region_frames true (frame - first) (omega arith)

  -- in a page
  bit_page : (frame : ℕ) → first + 16 ≤ frame → frame < first + 18 → slice_get shut_region frame ≡ Some false
  bit_page frame low high =
      let long = length-replicate {A = Bool} 18 false in
      let region_long = length-replicate region_frames true in
      let frames = region_frames_are in
      shut.above frame (omega arith)
      ∙ opened.inside (frame - first) frame (omega arith) (omega arith)
      ∙ slice_get-replicate 18 false (frame - first) (omega arith)

  -- a frame is taken exactly where devices may write to it
  taken_open : (frame : ℕ) → IsTaken memory.marks frame → slice_get memory.excluded frame ≡ Some false
  taken_open frame taken =
      let there = taken_within memory.marks frame taken in
      let long = same_long in
      let within : frame < length memory.excluded = omega arith in
      let here = slice_get-get_or memory.excluded frame true within in
      elim (cases_Bool (get_or memory.excluded frame true)) [
        | inl excluded ↦ absurd (taken-not_free memory.marks frame taken (only frame (here ∙ ap Some excluded)))
        | inr open' ↦ here ∙ ap Some open'
      ]

  open_taken : (frame : ℕ) → slice_get memory.excluded frame ≡ Some false → IsTaken memory.marks frame
  open_taken frame open' =
      let there = slice_get_within memory.excluded frame false open' in
      let long = same_long in
      let within : frame < length memory.marks = omega arith in
      let here = slice_get-get_or memory.marks frame Free within in
      rw here (λ free.
      let clash : Some true ≡ Some false = sym (m.free_is_excluded frame (here ∙ ap Some free)) ∙ open' in
      cc)

  frame_open : (frame : ℕ) → IsOpenIn memory first frame → slice_get shut_region frame ≡ Some false
  frame_open frame (inl taken) =
      elim (cases_lt frame first) [
        | inl below ↦ bit_apart frame (inl below) ∙ taken_open frame taken
        | inr low ↦ elim (cases_lt frame (first + 18)) [
          | inl high ↦ absurd (taken-not_free memory.marks frame taken (free-place memory.marks 18 16 first place frame low high))
          | inr above ↦ bit_apart frame (inr above) ∙ taken_open frame taken
        ]
      ]
  frame_open frame (inr page) = bit_page frame page.0 page.1

  open_frame : (frame : ℕ) → slice_get shut_region frame ≡ Some false → IsOpenIn memory first frame
  open_frame frame open' =
      elim (cases_lt frame first) [
        | inl below ↦ inl (open_taken frame (sym (bit_apart frame (inl below)) ∙ open'))
        | inr low ↦ elim (cases_lt frame (first + 16)) [
          | inl high ↦ absurd (let clash : Some true ≡ Some false = sym (bit_region frame low high) ∙ open' in cc)
          | inr after ↦ elim (cases_lt frame (first + 18)) [
            | inl page ↦ inr (after, page)
            | inr above ↦ inl (open_taken frame (sym (bit_apart frame (inr above)) ∙ open'))
          ]
        ]
      ]

  pub permitted_open : (at count : ℕ) → permits_in memory (area_at first) at count ≡ true → (address : ℕ) → at ≤ address → address < at + count → IsOpenIn memory first (frame_of address)
  permitted_open at count may address from before = open_frame (frame_of address) (may_write-true shut_region at count may address from before)

  pub open_permitted : (at count : ℕ) → ((address : ℕ) → at ≤ address → address < at + count → IsOpenIn memory first (frame_of address)) → permits_in memory (area_at first) at count ≡ true
  open_permitted at count each = true-may_write shut_region at count (λ address from before. frame_open (frame_of address) (each address from before))
