use Rattle.job_store.proofs.InMemory.{follows-next}
use Rattle.job_store.proofs.laws.simulated_law.Goals as goal

pub returns : goal.returns
returns c = λ call disk on size. follows-next call disk on size
