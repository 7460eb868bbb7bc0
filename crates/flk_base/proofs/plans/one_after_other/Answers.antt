use Rattle.flk_base.specs.PlanLaws.{run-bind}
use Rattle.flk_base.specs.StopLaws.{fused-bind}
use Rattle.flk_base.proofs.plans.one_after_other.Goals as goal

pub returns-clause-whole : goal.returns-clause-whole
returns-clause-whole g c = λ m p f s. run-bind m p f s

pub returns-clause-stopped : goal.returns-clause-stopped
returns-clause-stopped g c = λ costs m p f before. fused-bind costs m p f before
