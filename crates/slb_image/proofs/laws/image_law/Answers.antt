use Rattle.std.proofs.Common.{ℕ, ◌<◌, List, length, get_or, sym, ◌∙◌, inl, inr, arith}
use Rattle.std.specs.Prelude.{All}
use Rattle.std.proofs.lemmas.List.{get_or_past}
use Rattle.std.proofs.lemmas.Bool.{cases_lt}
use Rattle.slb_image.proofs.laws.image_law.Goals as goal
use Rattle.slb_image.specs.Fields.{image_of}
use Rattle.slb_image.proofs.Checked.{passes, faultless}
use Rattle.slb_image.proofs.Packed.{passes-image, image_of-image, length-image}
use Rattle.slb_image.proofs.Packed.{length_field-image_then}
use Rattle.slb_image.proofs.Ranges.{fits-from_none, none-from_fits}
use Rattle.slb_image.proofs.Read.{read}

pub returns-clause-determined : goal.returns-clause-determined
returns-clause-determined c one other bytes a b = sym (image_of-image one bytes a)
    ∙ image_of-image other bytes b

pub returns-clause-sized : goal.returns-clause-sized
returns-clause-sized c image bytes is = length-image image bytes is

pub returns-clause-ends : goal.returns-clause-ends
returns-clause-ends c bytes rest is = length_field-image_then is.0 bytes rest is.1

-- each item of a list of bytes, and what stands past its end, is below 256
small : (bytes : List ℕ) → All (λ byte. byte < 256) bytes → (i : ℕ) → get_or bytes i 0 < 256
small bytes each i = elim (cases_lt i (length bytes)) [
  | inl inside ↦ each i 0 inside
  | inr past ↦ omega (arith, get_or_past bytes i 0 past)
]

pub returns-clause-faultless : goal.returns-clause-faultless
returns-clause-faultless c bytes each = (
  λ none. (image_of bytes, read bytes (small bytes each) (passes bytes none)),
  λ is. faultless
      bytes (passes-image is.0 bytes is.1),
)

pub returns-clause-ranges : goal.returns-clause-ranges
returns-clause-ranges c entry budget code each =
    (fits-from_none entry budget code each, none-from_fits entry budget code)
