use Rattle.job_store.proofs.SlotBytes.{stored-blob, stored-none}
use Rattle.job_store.proofs.laws.stored_law.Goals as goal

pub returns-clause-blob : goal.returns-clause-blob
returns-clause-blob c = λ disk j s blob size hj hs some short.
    stored-blob disk j s blob size hj hs some short

pub returns-clause-none : goal.returns-clause-none
returns-clause-none c = λ disk j s blob size hj hs none. stored-none disk j s blob size hj hs none
