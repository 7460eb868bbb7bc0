use Rattle.machine_memory.proofs.MemoryLemmas.{after_loan-long}
use Rattle.machine_memory.proofs.laws.loan_law.Goals as goal

pub returns : goal.returns
returns c = after_loan-long
