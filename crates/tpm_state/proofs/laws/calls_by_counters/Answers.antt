use Rattle.tpm_state.specs.CounterLaws.{create_done, create_refused, create_full, increment_done, increment_refused}
use Rattle.tpm_state.proofs.laws.calls_by_counters.Goals as goal

pub returns-clause-created : goal.returns-clause-created
returns-clause-created g c = λ owner c' id given. create_done owner c' id given

pub returns-clause-create_refused : goal.returns-clause-create_refused
returns-clause-create_refused g c = λ owner c' refusal is. create_refused owner c' refusal is

pub returns-clause-full : goal.returns-clause-full
returns-clause-full g c = λ owner c'. create_full owner c'

pub returns-clause-incremented : goal.returns-clause-incremented
returns-clause-incremented g c = λ same id who c' value given. increment_done same id who c' value given

pub returns-clause-increment_refused : goal.returns-clause-increment_refused
returns-clause-increment_refused g c = λ same id who c' refusal is. increment_refused same id who c' refusal is
