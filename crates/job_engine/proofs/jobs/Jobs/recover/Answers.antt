use Rattle.job_store.specs.Commands.{MayReply}
use Rattle.session_driver.specs.Answers.{no_outputs}
use Rattle.job_engine.specs.Calls.{finds}
use Rattle.job_engine.proofs.WholeCalls.{carried_slot, recover_call}
use Rattle.job_engine.proofs.jobs.Jobs.recover.Goals as goal

pub returns-clause-call : goal.returns-clause-call
returns-clause-call g c =
    let may = (MayReply g.D.Disk.contents g.D.Disk.fault_count g.D.Disk.call_gives) in
    recover_call may c.args.self.now c.args.name.now c.args.board c.args.disk.now c.find.new.disk c.slot_answer.result no_outputs c.in-Some.place.j c.in-Some.place.image.now
    (rw (c.deref.ensures.value, c.self.view_is) at (rw c.in-Some.is at c.job_in.ensures.some))
    (rw c.slot_answer.ensures (carried_slot may c.in-Some.place.image.now (finds c.in-Some.place.j) c.args.board c.args.disk.now c.find.new.disk c.find.new.blob c.find.result c.find.ensures.ran))
