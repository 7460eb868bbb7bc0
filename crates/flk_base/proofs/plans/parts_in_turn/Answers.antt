use Rattle.flk_base.specs.PartLaws.{parts_then, parts_fail}
use Rattle.flk_base.proofs.plans.parts_in_turn.Goals as goal

pub returns-clause-value : goal.returns-clause-value
returns-clause-value g c =
    λ no_memory lost reports costs m own b first next before between after z answer one rest.
    parts_then no_memory lost reports costs m own b first next before between after z answer one
    rest

pub returns-clause-error : goal.returns-clause-error
returns-clause-error g c =
    λ no_memory lost reports costs m own b first next before after error one rest.
    parts_fail no_memory lost reports costs m own b first next before after error one rest
