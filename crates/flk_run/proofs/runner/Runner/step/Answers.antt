use Rattle.std.proofs.Common.{◌++◌, ap, refl, subst, ◌∙◌}
use Rattle.script_text.specs.Seen.{request_of}
use Rattle.flk_run.specs.Answers.{line_of}
use Rattle.flk_run.specs.Seen.{platform_at, seen_task, seen_answer}
use Rattle.flk_run.specs.Tasks.{MayAllocate}
use Rattle.flk_run.proofs.PlatformLemmas.{may_for}
use Rattle.flk_run.proofs.HostLemmas.{known_steps, known_line}
use Rattle.flk_run.proofs.runner.Runner.step.Goals as goal

pub returns-in-Ok-done-clause-stepped : goal.returns-in-Ok-done-clause-stepped
returns-in-Ok-done-clause-stepped c done =
    let host = c.runner.inside.host in
    let at_once = rw
    (c.prepared.ensures.host, c.prepared.ensures.table, c.in-Ok-done.is) at c.perform-host.ensures.done in
    rw (c.perform-host.ensures.untaken, c.prepared.ensures.host, ← c.runner.view_is)
    (known_steps host.untaken (request_of c.args.event.now) (seen_task c.in-Ok.task)
    (platform_at host c.runner.inside.vars.table) _ _ c.in-Ok.ensures.task at_once)

pub returns-in-Err-done-clause-memory : goal.returns-in-Err-done-clause-memory
returns-in-Err-done-clause-memory c = λ none fits.
    let table = c.runner.inside.vars.table in
    let may = c.perform-host.ensures.memory (rw c.in-Err-done.is refl) in
    rw (← c.runner.view_is) (may_for (request_of c.args.event.now) table
    (subst MayAllocate c.in-Ok.ensures.task may))

pub returns-in-Ok-done-clause-written : goal.returns-in-Ok-done-clause-written
returns-in-Ok-done-clause-written c done =
    let host = c.runner.inside.host in
    let at_once = rw
    (c.prepared.ensures.host, c.prepared.ensures.table, c.in-Ok-done.is) at c.perform-host.ensures.done in
    let line = c.put_answer.ensures ∙ ap
    (λ bytes. bytes ++ line_of c.args.number
    (seen_answer c.in-Ok-done.done)) c.prepared.ensures.unwritten in
    rw (← c.runner.view_is) (known_line host.untaken c.args.number (request_of c.args.event.now)
    (seen_task c.in-Ok.task)
    (platform_at host c.runner.inside.vars.table) _ _
    c.args.answer.now.bytes _ c.in-Ok.ensures.task
    at_once line)
