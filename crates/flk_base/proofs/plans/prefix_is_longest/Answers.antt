use Rattle.flk_base.specs.StopLaws.{prefix-begins, prefix-cost, prefix-longest}
use Rattle.flk_base.proofs.plans.prefix_is_longest.Goals as goal

pub returns-clause-begins : goal.returns-clause-begins
returns-clause-begins g c = λ costs n given. prefix-begins costs n given

pub returns-clause-cost : goal.returns-clause-cost
returns-clause-cost g c = λ costs n given. prefix-cost costs n given

pub returns-clause-longest : goal.returns-clause-longest
returns-clause-longest g c = λ costs n other rest few. prefix-longest costs n other rest few
