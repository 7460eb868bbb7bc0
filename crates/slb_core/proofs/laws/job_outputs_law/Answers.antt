use Rattle.seal_device.specs.Commands.{costs}
use Rattle.slb_core.proofs.WriteLemmas.{only_fused}
use Rattle.slb_core.proofs.JobLemmas.{KeepsOutputs, mode_keeps}
use Rattle.slb_core.proofs.laws.job_outputs_law.Goals as goal

pub returns : goal.returns
returns g c = λ device before start asked runs.
    only_fused costs device KeepsOutputs _ before (mode_keeps asked.mode start asked runs)
