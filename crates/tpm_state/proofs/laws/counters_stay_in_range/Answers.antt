use Rattle.tpm_state.specs.CounterLaws.{create_in_range, increment_in_range}
use Rattle.tpm_state.proofs.laws.counters_stay_in_range.Goals as goal

pub returns-clause-create : goal.returns-clause-create
returns-clause-create g c = λ owner c' range. create_in_range owner c' range

pub returns-clause-increment : goal.returns-clause-increment
returns-clause-increment g c = λ same id who c' range. increment_in_range same id who c' range
