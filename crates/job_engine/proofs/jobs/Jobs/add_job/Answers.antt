use Rattle.std.proofs.Common.{◌≡◌, ◌<◌, sym, subst, ℕ, length, Err}
use Rattle.job_store.specs.Commands.{MayReply}
use Rattle.job_engine.specs.Jobs.{Job, IsJobImage}
use Rattle.job_engine.specs.declared.ends.JobEnd.TheVariants.{NoMemory}
use Rattle.job_engine.specs.declared.parts.Exit.TheVariants.{Ended}
use Rattle.job_engine.specs.Answers.{Carried, job_seen, jobs_seen}
use Rattle.job_engine.specs.Calls.{births, births_told}
use Rattle.job_engine.proofs.WholeCalls.{carried_output, births_then, births_want}
use Rattle.job_engine.proofs.Lists.{still_jobs}
use Rattle.job_engine.proofs.jobs.Jobs.add_job.Goals as goal

pub returns-in-Err-clause-call : goal.returns-in-Err-clause-call
returns-in-Err-clause-call g c =
    let may = (MayReply g.D.Disk.contents g.D.Disk.fault_count g.D.Disk.call_gives) in
    carried_output may c.args.image.now (births (length c.args.self.now) c.args.inputs.now) c.args.board c.args.disk.now c.args.disk.now c.args.out.now (Err (Ended c.args.board NoMemory))
    (births_want may c.args.image.now (length c.args.self.now) c.args.inputs.now c.args.board c.args.disk.now) c.requires.blank

pub returns-in-Ok-clause-call : goal.returns-in-Ok-clause-call
returns-in-Ok-clause-call g c =
    let may = MayReply g.D.Disk.contents g.D.Disk.fault_count g.D.Disk.call_gives in
    let count : c.count_of-j.result ≡ length c.args.self.now =
    (rw (c.deref.ensures.value, c.self.view_is) at c.count_of-j.ensures) in
    subst (λ (j : ℕ). Carried may c.args.image.now (births_told j c.args.inputs.now) c.args.board c.args.disk.now c.bear.new.disk c.output_answer-answer.result c.bear.new.out) count
    (rw c.output_answer-answer.ensures
    (carried_output may c.args.image.now (births c.count_of-j.result c.args.inputs.now) c.args.board c.args.disk.now c.bear.new.disk c.bear.new.out c.bear.result
    (births_then may c.args.image.now c.count_of-j.result c.args.inputs.now c.args.board c.args.disk.now c.bear.new.disk _ c.bear.ensures.ran) c.bear.ensures.out))

pub invariant_of-self-in-Ok : goal.invariant_of-self-in-Ok
invariant_of-self-in-Ok g c =
    let jobs = jobs_seen c.self.inside.entries.items in
    let few : length jobs < 8 = rw (← c.self.view_is) at c.requires.few in
    let entry_is : job_seen c.in-Ok.entry ≡ record { name = c.args.name.now; image = c.args.image.now } = rw c.in-Ok.is at c.room_for.ensures.entry in
    rw (c.settle.ensures, c.room_for.ensures.kept)
    (still_jobs jobs c.in-Ok.entry.name.bytes c.in-Ok.entry.image.bytes c.output_answer-answer.result c.self.invariant few
    (subst (λ (job : Job). IsJobImage job.image) (sym entry_is) c.requires.image))
