use Rattle.std.proofs.Common.{ℕ, List, Ok, sym, subst}
use Rattle.seal_device.specs.Commands.{Unseal}
use Rattle.seal_device.specs.Blobs.{blob_counter}
use Rattle.seal_device.specs.Digests.{on_device}
use Rattle.seal_device.specs.Faults.{unseal_fault}
use Rattle.seal_device.specs.declared.faults.UnsealFault.TheVariants.{PowerLost}
use Rattle.late_launch.specs.States.{session_device}
use Rattle.slb_core.specs.Pal.{CodeStart}
use Rattle.slb_core.specs.Jobs.{steps, steps_from}
use Rattle.slb_core.specs.Reports.{start_in, seen_asked, PalEnds}
use Rattle.slb_core.proofs.JobLemmas.{reported_into_ok, reply_then, start_on}
use Rattle.slb_core.proofs.jobs.step.Goals as goal

pub returns-in-Ok : goal.returns-in-Ok
returns-in-Ok c =
    let start = start_in c.args.session.now c.args.start.cpu c.args.start.budget c.args.dma.now in
    let now = c.unseal.new.self in
    let ends = rw c.in-Ok.is at c.unseal.ensures.ends in
    let told = reported_into_ok _ unseal_fault PowerLost _ c.in-Ok.size c.unseal.new.out ends.1 in
    reply_then (Unseal c.args.asked.blob.now) (steps start (seen_asked c.args.asked)) (Ok told.bytes)
    c.args.session.now now c.step_from.new.session c.step_from.new.dma c.step_from.new.outputs c.step_from.result
    ends.0 told.told_is c.unseal.ensures.others
    (subst (λ (s : CodeStart). PalEnds (on_device (steps_from s (seen_asked c.args.asked) told.bytes (blob_counter c.args.asked.blob.now)) (session_device now)) now c.step_from.new.session c.step_from.new.dma c.step_from.new.outputs c.step_from.result)
    (sym (start_on c.args.session.now now c.args.start.cpu c.args.start.budget c.args.dma.now c.unseal.ensures.others))
    (subst (λ (xs : List ℕ). PalEnds (on_device (steps_from (start_in now c.args.start.cpu c.args.start.budget c.args.dma.now) (seen_asked c.args.asked) xs (blob_counter c.args.asked.blob.now)) (session_device now)) now c.step_from.new.session c.step_from.new.dma c.step_from.new.outputs c.step_from.result)
    told.front c.step_from.ensures))
