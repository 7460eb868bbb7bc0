-- The marks of a pool's frames.
use Rattle.std.specs.Prelude.{◌≡◌, ◌≢◌, ℕ, ◌<◌, ◌^◌, List, ◌∷◌, length, Bool, true, false, not}
use Rattle.std.specs.Prelude.{count_by, slice_get, Some, IsSomeAnd}
use Rattle.region_pool.specs.declared.mark.Mark.{Mark}
use Rattle.region_pool.specs.declared.mark.Mark.TheVariants.{Free, Next}

-- the frame lies in no span
abbrev pub is_free : Mark → Bool
is_free Free = true
is_free _ = false

-- the frame is in the pool, and it is not free
abbrev pub IsTaken : List Mark → ℕ → Type 0
IsTaken marks frame = IsSomeAnd (slice_get marks frame) (λ mark. mark ≢ Free)

-- how many frames are not free
abbrev pub taken_count : List Mark → ℕ
taken_count marks = count_by (λ mark. not (is_free mark)) marks

-- what is true of every pool: each frame has a number of 32 bits, and no next frame stands first or
-- after a free one
pub record IsPool (marks : List Mark) : Type 0 where
  pub size : length marks < 2 ^ 32
  pub continued : (frame : ℕ) → slice_get (Free ∷ marks) frame ≡ Some Free
      → slice_get marks frame ≢ Some Next
