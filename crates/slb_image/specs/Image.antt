-- The form of an image: a front of 32 bytes, whose numbers have their lowest byte first, and the
-- code.
use Rattle.std.specs.Prelude.{◌≡◌, ℕ, ◌+◌, ◌<◌, ◌≤◌, Bool, true, false, List, [], ◌∷◌, ◌++◌, length}
use Rattle.std.specs.Prelude.{replicate, codes, All}
use Rattle.std.specs.List.{concat}
use Rattle.std.specs.Int.{IsInRange}
use Rattle.byteorder.specs.Endian.{little_bytes}

-- what an image says: where its code is entered, how many turns it may take, whether it is a job's,
-- and the code
pub record Image : Type 0 where
  pub entry : ℕ
  pub budget : ℕ
  pub job : Bool
  pub code : List ℕ

-- the flags: bit 0 marks a job's image
abbrev pub flags : Bool → ℕ
flags false = 0
flags true = 1

-- the front: entry, length of the whole, mark, version, flags, budget, and 16 bytes that are
-- reserved
unfoldable pub front : ℕ → ℕ → Bool → List ℕ → List ℕ
front entry budget job code =
    concat (little_bytes 2 entry
    ∷ little_bytes 2 (32 + length code)
    ∷ codes "FLKC"
    ∷ little_bytes 2 1
    ∷ little_bytes 2 (flags job)
    ∷ little_bytes 4 budget
    ∷ replicate 16 0
    ∷ [])

-- the image of these values
abbrev pub pack : ℕ → ℕ → Bool → List ℕ → List ℕ
pack entry budget job code = front entry budget job code ++ code

-- the values that have an image: the code is entered somewhere after the front
pub record FitsImage (entry budget : ℕ) (code : List ℕ) : Type 0 where
  pub code_bytes : All (λ byte. byte < 256) code
  pub code_length : IsInRange 1 49120 (length code)
  pub entry_inside : (32 ≤ entry) × (entry < 32 + length code)
  pub budget_range : IsInRange 1 1000000 budget

-- the bytes are the image that says this
pub record IsImageOf (image : Image) (bytes : List ℕ) : Type 0 where
  pub fits : FitsImage image.entry image.budget image.code
  pub packed : bytes ≡ pack image.entry image.budget image.job image.code

-- the bytes are an image
abbrev pub IsImage : List ℕ → Type 0
IsImage bytes = (image : Image) × IsImageOf image bytes
