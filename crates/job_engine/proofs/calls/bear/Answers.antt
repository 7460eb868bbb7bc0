use Rattle.job_store.specs.Commands.{MayReply}
use Rattle.std.proofs.Common.{[], take}
use Rattle.slb_core.specs.JobInputs.{job_inputs}
use Rattle.slb_core.specs.declared.job_inputs.Mode.TheVariants.{New}
use Rattle.job_engine.specs.Calls.{outputs_in, told_in, keeps_birth}
use Rattle.job_engine.proofs.Runs.{ran_then, ran_exit, did_ran}
use Rattle.job_engine.proofs.calls.bear.Goals as goal

pub returns-in-Err-clause-ran : goal.returns-in-Err-clause-ran
returns-in-Err-clause-ran g c =
    ran_exit (MayReply g.D.Disk.contents g.D.Disk.fault_count g.D.Disk.call_gives) c.args.image.now (outputs_in New [] c.args.inputs.now) (keeps_birth c.args.j)
    c.args.board c.args.disk.now c.args.disk.now c.in-Err.exit
    (did_ran (MayReply g.D.Disk.contents g.D.Disk.fault_count g.D.Disk.call_gives) c.args.image.now (told_in New) (job_inputs (record { mode = New; blob = []; own = c.args.inputs.now })) c.args.board c.args.disk.now _ (rw c.in-Err.is at c.outputs_in.ensures.did))

pub returns-in-Ok-clause-ran : goal.returns-in-Ok-clause-ran
returns-in-Ok-clause-ran g c =
    ran_then (MayReply g.D.Disk.contents g.D.Disk.fault_count g.D.Disk.call_gives) c.args.image.now (outputs_in New [] c.args.inputs.now) (keeps_birth c.args.j)
    c.args.board c.in-Ok.both.0 c.args.disk.now c.args.disk.now c.keep_birth.new.disk (take c.in-Ok.both.1 c.outputs_in.new.page) _
    (did_ran (MayReply g.D.Disk.contents g.D.Disk.fault_count g.D.Disk.call_gives) c.args.image.now (told_in New) (job_inputs (record { mode = New; blob = []; own = c.args.inputs.now })) c.args.board c.args.disk.now _ (rw c.in-Ok.is at c.outputs_in.ensures.did))
    (c.keep_birth.ensures.ran c.args.image.now)
