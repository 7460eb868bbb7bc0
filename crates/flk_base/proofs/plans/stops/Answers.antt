use Rattle.flk_base.specs.StopLaws.{commands-limited, after-commands, fused-is-cut, fused-unlimited}
use Rattle.flk_base.proofs.plans.stops.Goals as goal

pub returns-clause-given : goal.returns-clause-given
returns-clause-given g c = λ costs m p n s. commands-limited costs m p n s

pub returns-clause-cut : goal.returns-clause-cut
returns-clause-cut g c = λ costs m p before. fused-is-cut costs m p before

pub returns-clause-whole : goal.returns-clause-whole
returns-clause-whole g c = λ costs m p s. fused-unlimited costs m p s

pub returns-clause-end : goal.returns-clause-end
returns-clause-end g c = λ m p s. after-commands m p s
