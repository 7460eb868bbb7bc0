use Rattle.std.proofs.Common.{ap, sym, ◌∙◌, Some}
use Rattle.flk_run.specs.Seen.{platform_at}
use Rattle.flk_run.proofs.SessionLemmas.{bound_too, session_binds, of_answer}
use Rattle.flk_run.proofs.events.run_session.Goals.{in-Some, in_default}
use Rattle.flk_run.proofs.events.run_session.Goals as goal

pub returns-in-Ok-clause-done : goal.returns-in-Ok-clause-done
returns-in-Ok-clause-done c =
    let steps = of_answer c.session-host.result.1 c.in-Ok.answer _ c.in-Ok.is c.session-host.ensures.steps in
    elim c.match-bound.branch [
      | in-Some w ↦ λ untaken.
          let before = platform_at c.args.host c.args.vars.now.table in
          let name = w.in-Some.field-0.name.now in
          rw (w.vars-is, w.in-Some.is, w.bind_outputs.ensures, ← c.as_slice.ensures, ← c.as_slice-2.ensures)
          (ap (bound_too (Some name)) (steps untaken c.args.vars.now.table)
          ∙ sym (session_binds before _ _ _ (Some name)))
      | in_default w ↦ λ untaken.
          rw (w.vars-is, w.in_default.is, ← c.as_slice.ensures, ← c.as_slice-2.ensures) (steps untaken c.args.vars.now.table)
    ]
