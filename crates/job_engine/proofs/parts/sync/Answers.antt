use Rattle.std.proofs.Common.{sym, ap}
use Rattle.late_launch.specs.Boards.{BoardParts}
use Rattle.job_store.specs.Commands.{SyncSlots}
use Rattle.job_engine.specs.Calls.{disk_told}
use Rattle.job_engine.proofs.Slots.{sync_done, sync_failed, slots_dark}
use Rattle.job_engine.proofs.parts.sync.Goals as goal

pub returns-in-Ok : goal.returns-in-Ok
returns-in-Ok g c = λ image.
    sync_done g.D.Disk.contents g.D.Disk.fault_count g.D.Disk.call_gives image c.args.board _ c.board.inside.fuse.left c.sync.new.fuse.left c.args.disk.now c.sync.new.disk (sym (ap (λ (b : BoardParts). b.fuse) c.board.view_is)) (ap (λ (b : BoardParts). record b { fuse = c.sync.new.fuse.left }) c.board.view_is)
    (rw c.in-Ok.is at c.sync.ensures.step) (rw c.in-Ok.is at c.sync.ensures.call) (rw c.in-Ok.is at c.sync.ensures.cause) (rw c.in-Ok.is at c.sync.ensures.ok)

pub returns-in-Err-DiskFault : goal.returns-in-Err-DiskFault
returns-in-Err-DiskFault g c = λ image.
    sync_failed g.D.Disk.contents g.D.Disk.fault_count g.D.Disk.call_gives image c.args.board _ c.board.inside.fuse.left c.sync.new.fuse.left c.args.disk.now c.sync.new.disk (sym (ap (λ (b : BoardParts). b.fuse) c.board.view_is)) (ap (λ (b : BoardParts). record b { fuse = c.sync.new.fuse.left }) c.board.view_is)
    (rw (c.in-Err-DiskFault.is, c.in-Err-DiskFault.field-0-is) at c.sync.ensures.step) (rw (c.in-Err-DiskFault.is, c.in-Err-DiskFault.field-0-is) at c.sync.ensures.call) (rw (c.in-Err-DiskFault.is, c.in-Err-DiskFault.field-0-is) at c.sync.ensures.cause) (rw c.in-Err-DiskFault.is at c.sync.ensures.err)

pub returns-in-Err-PowerLost : goal.returns-in-Err-PowerLost
returns-in-Err-PowerLost g c = λ image.
    let step = (rw (c.in-Err-PowerLost.is, c.in-Err-PowerLost.field-0-is) at c.sync.ensures.step) in
    slots_dark g.D.Disk.contents g.D.Disk.fault_count g.D.Disk.call_gives image c.args.board _ c.board.inside.fuse.left c.sync.new.fuse.left c.args.disk.now c.sync.new.disk (sym (ap (λ (b : BoardParts). b.fuse) c.board.view_is)) (ap (λ (b : BoardParts). record b { fuse = c.sync.new.fuse.left }) c.board.view_is)
    SyncSlots disk_told c.fall.result step.0 (rw (c.in-Err-PowerLost.is, c.in-Err-PowerLost.field-0-is) at c.sync.ensures.call) c.fall.ensures
