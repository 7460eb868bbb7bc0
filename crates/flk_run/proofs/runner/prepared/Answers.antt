use Rattle.std.proofs.Common.{subst, inl, inr, false, refl}
use Rattle.std.proofs.lemmas.Bool.{cases_Bool, both_ways}
use Rattle.script_text.specs.Seen.{request_of}
use Rattle.flk_run.specs.Tasks.{MayAllocate}
use Rattle.flk_run.specs.Seen.{seen_task, binds, takes}
use Rattle.flk_run.proofs.PlatformLemmas.{allocates_binding, allocates_ticket, may_for}
use Rattle.flk_run.proofs.runner.prepared.Goals as goal

pub returns-in_err-room_for_name-clause-memory : goal.returns-in_err-room_for_name-clause-memory
returns-in_err-room_for_name-clause-memory c = λ failed room.
    let task = seen_task c.in_ok-task.task in
    elim (cases_Bool (binds task)) [
      | inl names ↦ may_for (request_of c.args.event.now) c.args.vars.now.table
          (subst MayAllocate c.in_ok-task.ensures.task (allocates_binding task names))
      | inr nameless ↦ absurd (both_ways false refl (c.in_err-room_for_name.ensures.unasked nameless))
    ]

pub returns-in_err-room_for_span-clause-memory : goal.returns-in_err-room_for_span-clause-memory
returns-in_err-room_for_span-clause-memory c = λ failed room.
    let task = seen_task c.in_ok-task.task in
    elim (cases_Bool (takes task)) [
      | inl spans ↦ may_for (request_of c.args.event.now) c.args.vars.now.table
          (subst MayAllocate c.in_ok-task.ensures.task (allocates_ticket task spans))
      | inr spanless ↦ absurd (both_ways false refl (c.in_err-room_for_span.ensures.unasked spanless))
    ]
