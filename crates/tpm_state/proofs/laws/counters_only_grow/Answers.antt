use Rattle.tpm_state.specs.CounterLaws.{create_grew, increment_grew, grew_same, grew_twice}
use Rattle.tpm_state.proofs.laws.counters_only_grow.Goals as goal

pub returns-clause-create : goal.returns-clause-create
returns-clause-create g c = λ owner c'. create_grew owner c'

pub returns-clause-increment : goal.returns-clause-increment
returns-clause-increment g c = λ same id who c'. increment_grew same id who c'

pub returns-clause-nothing : goal.returns-clause-nothing
returns-clause-nothing g c = λ c'. grew_same c'

pub returns-clause-one_after_other : goal.returns-clause-one_after_other
returns-clause-one_after_other g c = λ a b c' first second. grew_twice a b c' first second
