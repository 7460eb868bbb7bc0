use Rattle.flk_base.specs.StopLaws.{ends_then, ends_lost}
use Rattle.flk_base.proofs.plans.calls_in_turn.Goals as goal

pub returns-clause-whole : goal.returns-clause-whole
returns-clause-whole g c = λ costs m p f lost before between after x answer first second.
    ends_then costs m p f lost before between after x answer first second

pub returns-clause-lost : goal.returns-clause-lost
returns-clause-lost g c = λ costs m p f lost before after first.
    ends_lost costs m p f lost before after first
