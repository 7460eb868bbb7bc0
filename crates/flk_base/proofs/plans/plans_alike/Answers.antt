use Rattle.std.specs.Prelude.{IsTrue}
use Rattle.flk_base.specs.PlanLaws.{plans_alike}
use Rattle.flk_base.proofs.plans.plans_alike.Goals as goal

pub returns : goal.returns
returns g c = λ m n fact agree law p s t facts alike.
    plans_alike m n (λ c t. IsTrue (fact c t)) (λ s t. IsTrue (agree s t)) law p s t facts alike
