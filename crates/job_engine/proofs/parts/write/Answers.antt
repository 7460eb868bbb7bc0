use Rattle.std.proofs.Common.{refl, sym, ap}
use Rattle.late_launch.specs.Boards.{BoardParts}
use Rattle.job_store.specs.Commands.{WriteSlot}
use Rattle.job_engine.specs.Calls.{disk_told}
use Rattle.job_engine.proofs.Slots.{write_done, write_failed, slots_dark}
use Rattle.job_engine.proofs.parts.write.Goals as goal

pub returns-in-Ok : goal.returns-in-Ok
returns-in-Ok g c = λ image.
    write_done g.D.Disk.contents g.D.Disk.fault_count g.D.Disk.call_gives image c.args.board _ c.board.inside.fuse.left c.write.new.fuse.left c.args.disk.now c.write.new.disk (sym (ap (λ (b : BoardParts). b.fuse) c.board.view_is)) (ap (λ (b : BoardParts). record b { fuse = c.write.new.fuse.left }) c.board.view_is)
    c.args.j c.args.s c.args.blob.now c.requires.job c.requires.slot c.requires.short (rw c.in-Ok.is at c.write.ensures.step) (rw c.in-Ok.is at c.write.ensures.call) (rw c.in-Ok.is at c.write.ensures.cause) (rw c.in-Ok.is at c.write.ensures.ok)

pub returns-in-Err-DiskFault : goal.returns-in-Err-DiskFault
returns-in-Err-DiskFault g c = λ image.
    write_failed g.D.Disk.contents g.D.Disk.fault_count g.D.Disk.call_gives image c.args.board _ c.board.inside.fuse.left c.write.new.fuse.left c.args.disk.now c.write.new.disk (sym (ap (λ (b : BoardParts). b.fuse) c.board.view_is)) (ap (λ (b : BoardParts). record b { fuse = c.write.new.fuse.left }) c.board.view_is)
    c.args.j c.args.s c.args.blob.now c.requires.job c.requires.slot c.requires.short (rw (c.in-Err-DiskFault.is, c.in-Err-DiskFault.field-0-is) at c.write.ensures.step) (rw (c.in-Err-DiskFault.is, c.in-Err-DiskFault.field-0-is) at c.write.ensures.call) (rw (c.in-Err-DiskFault.is, c.in-Err-DiskFault.field-0-is) at c.write.ensures.cause) (c.write.ensures.torn (rw (c.in-Err-DiskFault.is, c.in-Err-DiskFault.field-0-is) refl))

pub returns-in-Err-PowerLost : goal.returns-in-Err-PowerLost
returns-in-Err-PowerLost g c = λ image.
    let step = (rw (c.in-Err-PowerLost.is, c.in-Err-PowerLost.field-0-is) at c.write.ensures.step) in
    slots_dark g.D.Disk.contents g.D.Disk.fault_count g.D.Disk.call_gives image c.args.board _ c.board.inside.fuse.left c.write.new.fuse.left c.args.disk.now c.write.new.disk (sym (ap (λ (b : BoardParts). b.fuse) c.board.view_is)) (ap (λ (b : BoardParts). record b { fuse = c.write.new.fuse.left }) c.board.view_is)
    (WriteSlot c.args.j c.args.s c.args.blob.now) disk_told c.fall.result step.0 (rw (c.in-Err-PowerLost.is, c.in-Err-PowerLost.field-0-is) at c.write.ensures.call) c.fall.ensures
