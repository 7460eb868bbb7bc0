use Rattle.std.proofs.Common.{ℕ, List, ap, length, take, ◌∙◌}
use Rattle.seal_device.specs.Faults.{seal_fault}
use Rattle.seal_device.specs.declared.faults.SealFault.TheVariants.{PowerLost}
use Rattle.slb_core.specs.Jobs.{job_outputs}
use Rattle.slb_core.proofs.JobLemmas.{reported_into_ok, sealed_so}
use Rattle.slb_core.proofs.jobs.seal_after.Goals as goal

pub returns-in-Ok : goal.returns-in-Ok
returns-in-Ok c =
    let ends = rw c.in-Ok.is at c.seal_kept.ensures.ends in
    let told = reported_into_ok _ seal_fault PowerLost _ c.in-Ok.size c.seal_kept.new.blob ends.1 in
    let front = ap (λ (blob : List ℕ). job_outputs blob (take c.in-Done.count c.args.outputs.now)) told.front in
    sealed_so c.args.session.now c.seal_kept.new.session c.args.code c.in-Done.count c.args.id c.args.ahead c.args.dma.now c.args.outputs.now c.put_outputs-count.new.outputs told.bytes c.put_outputs-count.result
    c.in-Done.is c.seal_kept.ensures.others
    (c.put_outputs-count.ensures.size ∙ ap (λ (xs : List ℕ). length xs) front)
    (c.put_outputs-count.ensures.outputs ∙ front)
    c.put_outputs-count.ensures.short ends.0 told.told_is
