use Rattle.tpm_state.specs.CounterLaws.{mapped_at, mapped_create, mapped_read, mapped_increment, mapped_range}
use Rattle.tpm_state.proofs.laws.counters_by_owners.Goals as goal

pub returns-clause-at : goal.returns-clause-at
returns-clause-at g c = λ f c' id. mapped_at f c' id

pub returns-clause-create : goal.returns-clause-create
returns-clause-create g c = λ f owner c'. mapped_create f owner c'

pub returns-clause-read : goal.returns-clause-read
returns-clause-read g c = λ f id c'. mapped_read f id c'

pub returns-clause-increment : goal.returns-clause-increment
returns-clause-increment g c = λ f same same' id who c' alike. mapped_increment f same same' id who c' alike

pub returns-clause-in_range : goal.returns-clause-in_range
returns-clause-in_range g c = λ f c' range. mapped_range f c' range
