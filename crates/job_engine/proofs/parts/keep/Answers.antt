use Rattle.job_store.specs.Commands.{MayReply}
use Rattle.job_engine.specs.Calls.{writes, syncs}
use Rattle.job_engine.proofs.Runs.{ran_then, ran_exit}
use Rattle.job_engine.proofs.parts.keep.Goals as goal

pub returns-in-Err : goal.returns-in-Err
returns-in-Err g c = λ image.
    ran_exit (MayReply g.D.Disk.contents g.D.Disk.fault_count g.D.Disk.call_gives) image (writes c.args.j c.args.s c.args.blob.now) (λ written. syncs)
    c.args.board c.args.disk.now c.write.new.disk c.in-Err.exit (rw c.in-Err.is at (c.write.ensures image))

pub returns-in-Ok : goal.returns-in-Ok
returns-in-Ok g c = λ image.
    ran_then (MayReply g.D.Disk.contents g.D.Disk.fault_count g.D.Disk.call_gives) image (writes c.args.j c.args.s c.args.blob.now) (λ written. syncs)
    c.args.board c.in-Ok.board c.args.disk.now c.write.new.disk c.sync.new.disk tt _ (rw c.in-Ok.is at (c.write.ensures image)) (c.sync.ensures image)
