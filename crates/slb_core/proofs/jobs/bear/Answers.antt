use Rattle.std.proofs.Common.{Ok, sym, subst}
use Rattle.seal_device.specs.Commands.{NewCounter}
use Rattle.seal_device.specs.Digests.{on_device}
use Rattle.seal_device.specs.Faults.{create_fault}
use Rattle.seal_device.specs.declared.faults.CounterFault.TheVariants.{PowerLost}
use Rattle.late_launch.specs.States.{session_device}
use Rattle.slb_core.specs.Pal.{CodeStart}
use Rattle.slb_core.specs.Jobs.{born}
use Rattle.slb_core.specs.Reports.{start_in, seen_asked, PalEnds}
use Rattle.slb_core.proofs.JobLemmas.{reported_ok, reply_then, start_on}
use Rattle.slb_core.proofs.jobs.bear.Goals as goal

pub returns-in-Ok : goal.returns-in-Ok
returns-in-Ok c =
    let start = start_in c.args.session.now c.args.start.cpu c.args.start.budget c.args.dma.now in
    let now = c.new_counter.new.self in
    let ends = rw c.in-Ok.is at c.new_counter.ensures.ends in
    reply_then NewCounter (born start (seen_asked c.args.asked)) (Ok c.in-Ok.id)
    c.args.session.now now c.run_with.new.session c.run_with.new.dma c.run_with.new.outputs c.run_with.result
    ends.0 (reported_ok create_fault PowerLost _ c.in-Ok.id ends.1) c.new_counter.ensures.others
    (subst (λ (s : CodeStart). PalEnds (on_device (born s (seen_asked c.args.asked) (Ok c.in-Ok.id)) (session_device now)) now c.run_with.new.session c.run_with.new.dma c.run_with.new.outputs c.run_with.result)
    (sym (start_on c.args.session.now now c.args.start.cpu c.args.start.budget c.args.dma.now c.new_counter.ensures.others)) c.run_with.ensures)
