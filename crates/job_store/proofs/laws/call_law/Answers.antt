use Rattle.job_store.proofs.Outcomes.{size-follows, sound-follows, size-blank, sound-blank}
use Rattle.job_store.proofs.laws.call_law.Goals as goal

pub returns-clause-size : goal.returns-clause-size
returns-clause-size c = λ outcome old new size f. size-follows outcome old new size f

pub returns-clause-sound : goal.returns-clause-sound
returns-clause-sound c = λ outcome old new size sound f. sound-follows outcome old new size sound f

pub returns-clause-blank : goal.returns-clause-blank
returns-clause-blank c = (size-blank, sound-blank)
