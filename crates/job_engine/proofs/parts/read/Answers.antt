use Rattle.std.proofs.Common.{refl, sym, ap, take, Some, None}
use Rattle.late_launch.specs.Boards.{BoardParts}
use Rattle.job_store.specs.Commands.{ReadSlot}
use Rattle.job_engine.specs.Calls.{disk_told}
use Rattle.job_engine.proofs.Slots.{read_done, read_failed, slots_dark}
use Rattle.job_engine.proofs.parts.read.Goals as goal

pub returns-in-Ok-clause-ran : goal.returns-in-Ok-clause-ran
returns-in-Ok-clause-ran g c = λ image.
    read_done g.D.Disk.contents g.D.Disk.fault_count g.D.Disk.call_gives image c.args.board _ c.board.inside.fuse.left c.read.new.fuse.left c.args.disk.now c.read.new.disk (sym (ap (λ (b : BoardParts). b.fuse) c.board.view_is)) (ap (λ (b : BoardParts). record b { fuse = c.read.new.fuse.left }) c.board.view_is)
    c.args.j c.args.s (Some (take c.in-Ok.len c.read.new.out)) c.requires.job c.requires.slot (rw c.in-Ok.is at c.read.ensures.step) (rw c.in-Ok.is at c.read.ensures.call) (rw c.in-Ok.is at c.read.ensures.cause) (rw c.in-Ok.is at c.read.ensures.blob) c.read.ensures.same

pub returns-in-Err-NoBlob-clause-ran : goal.returns-in-Err-NoBlob-clause-ran
returns-in-Err-NoBlob-clause-ran g c = λ image.
    read_done g.D.Disk.contents g.D.Disk.fault_count g.D.Disk.call_gives image c.args.board _ c.board.inside.fuse.left c.read.new.fuse.left c.args.disk.now c.read.new.disk (sym (ap (λ (b : BoardParts). b.fuse) c.board.view_is)) (ap (λ (b : BoardParts). record b { fuse = c.read.new.fuse.left }) c.board.view_is)
    c.args.j c.args.s None c.requires.job c.requires.slot (rw (c.in-Err-NoBlob.is, c.in-Err-NoBlob.field-0-is) at c.read.ensures.step) (rw (c.in-Err-NoBlob.is, c.in-Err-NoBlob.field-0-is) at c.read.ensures.call) (rw (c.in-Err-NoBlob.is, c.in-Err-NoBlob.field-0-is) at c.read.ensures.cause) (c.read.ensures.no_blob (rw (c.in-Err-NoBlob.is, c.in-Err-NoBlob.field-0-is) refl)) c.read.ensures.same

pub returns-in-Err-DiskFault-clause-ran : goal.returns-in-Err-DiskFault-clause-ran
returns-in-Err-DiskFault-clause-ran g c = λ image.
    read_failed g.D.Disk.contents g.D.Disk.fault_count g.D.Disk.call_gives image c.args.board _ c.board.inside.fuse.left c.read.new.fuse.left c.args.disk.now c.read.new.disk (sym (ap (λ (b : BoardParts). b.fuse) c.board.view_is)) (ap (λ (b : BoardParts). record b { fuse = c.read.new.fuse.left }) c.board.view_is)
    c.args.j c.args.s c.requires.job c.requires.slot (rw (c.in-Err-DiskFault.is, c.in-Err-DiskFault.field-0-is) at c.read.ensures.step) (rw (c.in-Err-DiskFault.is, c.in-Err-DiskFault.field-0-is) at c.read.ensures.call) (rw (c.in-Err-DiskFault.is, c.in-Err-DiskFault.field-0-is) at c.read.ensures.cause) c.read.ensures.same

pub returns-in-Err-PowerLost-clause-ran : goal.returns-in-Err-PowerLost-clause-ran
returns-in-Err-PowerLost-clause-ran g c = λ image.
    let step = (rw (c.in-Err-PowerLost.is, c.in-Err-PowerLost.field-0-is) at c.read.ensures.step) in
    slots_dark g.D.Disk.contents g.D.Disk.fault_count g.D.Disk.call_gives image c.args.board _ c.board.inside.fuse.left c.read.new.fuse.left c.args.disk.now c.read.new.disk (sym (ap (λ (b : BoardParts). b.fuse) c.board.view_is)) (ap (λ (b : BoardParts). record b { fuse = c.read.new.fuse.left }) c.board.view_is)
    (ReadSlot c.args.j c.args.s) disk_told c.fall.result step.0 (rw (c.in-Err-PowerLost.is, c.in-Err-PowerLost.field-0-is) at c.read.ensures.call) c.fall.ensures
