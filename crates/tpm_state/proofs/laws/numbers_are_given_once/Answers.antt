use Rattle.tpm_state.specs.CounterLaws.{new_id, new_first_value, new_next_value, left_for_good}
use Rattle.tpm_state.proofs.laws.numbers_are_given_once.Goals as goal

pub returns-clause-ids : goal.returns-clause-ids
returns-clause-ids g c = λ owner a b id counter grew is. new_id owner a b id counter grew is

pub returns-clause-first_values : goal.returns-clause-first_values
returns-clause-first_values g c = λ owner a b id new counter made range grew is given there. new_first_value owner a b id new counter made range grew is given there

pub returns-clause-next_values : goal.returns-clause-next_values
returns-clause-next_values g c = λ same id who a b counter value grew is given. new_next_value same id who a b counter value grew is given

pub returns-clause-left : goal.returns-clause-left
returns-clause-left g c = λ a b c' id first second third grew more at_a at_b at_c left. left_for_good a b c' id first second third grew more at_a at_b at_c left
