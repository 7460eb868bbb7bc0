use Rattle.std.specs.Prelude.{IsTrue}
use Rattle.flk_base.specs.PlanLaws.{plans_keep}
use Rattle.flk_base.proofs.plans.plans_keep.Goals as goal

pub returns : goal.returns
returns g c = λ m kept law p s holds. plans_keep m (λ s. IsTrue (kept s)) law p s holds
