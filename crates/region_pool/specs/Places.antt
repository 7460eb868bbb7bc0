-- Where a span may begin, and where it does: at the lowest place.
use Rattle.std.specs.Prelude.{◌≡◌, ℕ, ◌≤◌, ◌%◌, List, length, replicate, Bool, ◌&&◌, ◌==◌, Option}
use Rattle.std.specs.Prelude.{find}
use Rattle.std.specs.List.{list_all, range_with_len}
use Rattle.region_pool.specs.Marks.{is_free}
use Rattle.region_pool.specs.Spans.{marks_at}
use Rattle.region_pool.specs.declared.mark.Mark.{Mark}
use Rattle.region_pool.specs.declared.mark.Mark.TheVariants.{Free}

-- a frame is a place: it is a multiple of the alignment, and it begins so many free frames
pub record IsPlace (marks : List Mark) (frames align first : ℕ) : Type 0 where
  pub aligned : first % align ≡ 0
  pub free : marks_at marks first frames ≡ replicate frames Free

-- a frame is the least place
pub record IsLowestPlace (marks : List Mark) (frames align first : ℕ) : Type 0 where
  pub place : IsPlace marks frames align first
  pub lowest : (other : ℕ) → IsPlace marks frames align other → first ≤ other

-- no frame is a place
abbrev pub HasNoPlace : List Mark → ℕ → ℕ → Type 0
HasNoPlace marks frames align = (first : ℕ) → ¬ IsPlace marks frames align first

-- the test of a place
abbrev pub is_place : List Mark → ℕ → ℕ → ℕ → Bool
is_place marks frames align first =
    let found = marks_at marks first frames in
    (first % align == 0) && (length found == frames) && list_all is_free found

-- the lowest place, if there is one: the first frame that is a place
unfoldable pub place : List Mark → ℕ → ℕ → Option ℕ
place marks frames align = find (is_place marks frames align) (range_with_len 0 (length marks))
