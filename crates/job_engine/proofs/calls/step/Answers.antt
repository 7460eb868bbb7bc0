use Rattle.job_store.specs.Commands.{MayReply}
use Rattle.std.proofs.Common.{take}
use Rattle.job_engine.specs.Calls.{finds, steps_from}
use Rattle.job_engine.proofs.Runs.{ran_then, ran_exit}
use Rattle.job_engine.proofs.calls.step.Goals as goal

pub returns-in-Err-clause-ran : goal.returns-in-Err-clause-ran
returns-in-Err-clause-ran g c =
    ran_exit (MayReply g.D.Disk.contents g.D.Disk.fault_count g.D.Disk.call_gives) c.args.image.now (finds c.args.j) (steps_from c.args.j c.args.inputs.now)
    c.args.board c.args.disk.now c.find.new.disk c.in-Err.exit (rw c.in-Err.is at c.find.ensures.ran)

pub returns-in-Ok-clause-ran : goal.returns-in-Ok-clause-ran
returns-in-Ok-clause-ran g c =
    ran_then (MayReply g.D.Disk.contents g.D.Disk.fault_count g.D.Disk.call_gives) c.args.image.now (finds c.args.j) (steps_from c.args.j c.args.inputs.now)
    c.args.board c.in-Ok.both.0 c.args.disk.now c.find.new.disk c.step_from.new.disk (record { slot = c.in-Ok.both.1.slot; blob = take c.in-Ok.both.1.len c.find.new.blob }) _
    (rw c.in-Ok.is at c.find.ensures.ran) c.step_from.ensures.ran
