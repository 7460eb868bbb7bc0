use Rattle.job_store.specs.Commands.{MayReply}
use Rattle.job_engine.specs.Calls.{steps}
use Rattle.job_engine.proofs.WholeCalls.{carried_output, step_call}
use Rattle.job_engine.proofs.jobs.Jobs.step.Goals as goal

pub returns-clause-call : goal.returns-clause-call
returns-clause-call g c =
    let may = (MayReply g.D.Disk.contents g.D.Disk.fault_count g.D.Disk.call_gives) in
    step_call may c.args.self.now c.args.name.now c.args.board c.args.disk.now c.step.new.disk c.output_answer.result c.step.new.out c.args.inputs.now c.in-Some.place.j c.in-Some.place.image.now
    (rw (c.deref.ensures.value, c.self.view_is) at (rw c.in-Some.is at c.job_in.ensures.some)) c.if-inputs-gt-LONGEST_INPUTS.false
    (rw c.output_answer.ensures (carried_output may c.in-Some.place.image.now (steps c.in-Some.place.j c.args.inputs.now) c.args.board c.args.disk.now c.step.new.disk c.step.new.out c.step.result c.step.ensures.ran c.step.ensures.out))
