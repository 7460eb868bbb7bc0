use Rattle.job_store.specs.Commands.{MayReply}
use Rattle.std.proofs.Common.{[]}
use Rattle.slb_core.specs.JobInputs.{job_inputs}
use Rattle.slb_core.specs.declared.job_inputs.Mode.TheVariants.{Commit}
use Rattle.job_engine.specs.Calls.{keeps, commits, committed, told_in, new_blob, own_output}
use Rattle.job_engine.proofs.Runs.{ran_then, ran_exit, did_ran}
use Rattle.job_engine.proofs.calls.keep_step.Goals as goal

pub returns-in-Err-clause-ran : goal.returns-in-Err-clause-ran
returns-in-Err-clause-ran g c =
    ran_exit (MayReply g.D.Disk.contents g.D.Disk.fault_count g.D.Disk.call_gives) c.args.image.now (keeps c.args.j c.args.s (new_blob c.args.outputs.now)) (λ kept. commits (new_blob c.args.outputs.now) (own_output c.args.outputs.now))
    c.args.board c.args.disk.now c.keep.new.disk c.in-Err.exit (rw (c.in-Err.is, c.taken_apart-outputs.ensures.blob) at (c.keep.ensures c.args.image.now))

pub returns-in-Ok-clause-ran : goal.returns-in-Ok-clause-ran
returns-in-Ok-clause-ran g c =
    ran_then (MayReply g.D.Disk.contents g.D.Disk.fault_count g.D.Disk.call_gives) c.args.image.now (keeps c.args.j c.args.s (new_blob c.args.outputs.now)) (λ kept. commits (new_blob c.args.outputs.now) (own_output c.args.outputs.now))
    c.args.board c.in-Ok.board c.args.disk.now c.keep.new.disk c.keep.new.disk tt _ (rw (c.in-Ok.is, c.taken_apart-outputs.ensures.blob) at (c.keep.ensures c.args.image.now))
    (did_ran (MayReply g.D.Disk.contents g.D.Disk.fault_count g.D.Disk.call_gives) c.args.image.now (λ reply. committed (own_output c.args.outputs.now) (told_in Commit reply)) (job_inputs (record { mode = Commit; blob = new_blob c.args.outputs.now; own = [] })) c.in-Ok.board c.keep.new.disk _
    (rw (c.taken_apart-outputs.ensures.blob, c.taken_apart-outputs.ensures.own) at c.commit.ensures.did))
