use Rattle.tpm_state.specs.CounterLaws.{create_done, increment_done}
use Rattle.seal_device.specs.Sealing.{present_chain}
use Rattle.seal_device.proofs.Growth.{range_stays, counters_grow, owner_alone, range_over_plans}
use Rattle.seal_device.proofs.Growth.{grow_over_plans, counters_stay}
use Rattle.seal_device.proofs.laws.commands_by_counters.Goals as goal

pub returns-clause-in_range : goal.returns-clause-in_range
returns-clause-in_range g c = λ R command d range. range_stays R command d range

pub returns-clause-grow : goal.returns-clause-grow
returns-clause-grow g c = λ R command d. counters_grow R command d

pub returns-clause-plans_in_range : goal.returns-clause-plans_in_range
returns-clause-plans_in_range g c = λ R plan before range. range_over_plans R plan before range

pub returns-clause-plans_grow : goal.returns-clause-plans_grow
returns-clause-plans_grow g c = λ R plan before. grow_over_plans R plan before

pub returns-clause-owner : goal.returns-clause-owner
returns-clause-owner g c = λ R command d id counter is foreign.
    owner_alone R command d id counter is foreign

pub returns-clause-new_counter : goal.returns-clause-new_counter
returns-clause-new_counter g c = λ R d id given.
    create_done (present_chain R d) d.counters id given

pub returns-clause-increment : goal.returns-clause-increment
returns-clause-increment g c = λ R d id value given.
    increment_done R.same id (present_chain R d) d.counters value given

pub returns-clause-others : goal.returns-clause-others
returns-clause-others g c = λ R command d no_creation no_increment.
    counters_stay R command d no_creation no_increment
