use Rattle.slb_core.proofs.JobLemmas.{inputs_read}
use Rattle.slb_core.proofs.laws.job_inputs_law.Goals as goal

pub returns : goal.returns
returns c = inputs_read
