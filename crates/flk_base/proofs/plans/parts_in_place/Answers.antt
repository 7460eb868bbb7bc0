use Rattle.flk_base.specs.PartLaws.{run-expanded}
use Rattle.flk_base.proofs.plans.parts_in_place.Goals as goal

pub returns : goal.returns
returns g c = λ own m p s. run-expanded own m p s
