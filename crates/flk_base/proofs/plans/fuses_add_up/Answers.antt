use Rattle.flk_base.specs.StopLaws.{fused-left, fused-more}
use Rattle.flk_base.proofs.plans.fuses_add_up.Goals as goal

pub returns-clause-left : goal.returns-clause-left
returns-clause-left g c =
    λ costs m p s t x n left ends. fused-left costs m p s t x n left ends

pub returns-clause-more : goal.returns-clause-more
returns-clause-more g c =
    λ costs m p s t x n left more ends. fused-more costs m p s t x n left more ends
