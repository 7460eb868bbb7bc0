use Rattle.std.proofs.Common.{sym, refl, ◌∙◌, arith}
use Rattle.slb_image.specs.Fields.{image_of}
use Rattle.slb_image.specs.Image.{IsImageOf}
use Rattle.slb_image.proofs.Checked.{faultless}
use Rattle.slb_image.proofs.Packed.{passes-image}
use Rattle.slb_image.proofs.Read.{image-read}
use Rattle.slb_image.proofs.viewing.view.Goals as goal
use Rattle.slb_image.proofs.viewing.view.Goals.{In-None}

seen : (c : In-None) → IsImageOf (image_of c.args.bytes.now) c.args.bytes.now
seen c =
    image-read c.args.bytes.now (λ i. omega (arith, c.type_inv.bytes i))
    (sym c.fault_of_image.ensures ∙ c.in-None.is)

pub invariant_of-result : goal.invariant_of-result
invariant_of-result c = seen c

pub returns-in-None-clause-image : goal.returns-in-None-clause-image
returns-in-None-clause-image c = seen c

pub returns-in-None-clause-accepts : goal.returns-in-None-clause-accepts
returns-in-None-clause-accepts c = (λ _. (image_of c.args.bytes.now, seen c), λ _. refl)

pub returns-in-Some-clause-accepts : goal.returns-in-Some-clause-accepts
returns-in-Some-clause-accepts c = (
  λ ok. absurd (cc),
  λ is.
      (let none = faultless c.args.bytes.now (passes-image is.0 c.args.bytes.now is.1) in cc),
)
