use Rattle.std.proofs.Common.{ap, sym, ◌∙◌, Some}
use Rattle.flk_run.specs.Seen.{platform_at}
use Rattle.flk_run.proofs.BindingLemmas.{shown_too, slot_binds}
use Rattle.flk_run.proofs.events.run_slot.Goals.{in-Some, in_default}
use Rattle.flk_run.proofs.events.run_slot.Goals as goal

pub returns-clause-done : goal.returns-clause-done
returns-clause-done c = elim c.match-bound.branch [
  | in-Some w ↦ λ untaken.
      let before = platform_at c.args.host c.args.vars.now.table in
      let name = w.in-Some.field-0.name.now in
      rw (w.vars-is, w.in-Some.is, w.bind_bytes.ensures)
      (ap (shown_too (Some name)) (c.read_slot-host.ensures.steps untaken c.args.vars.now.table)
      ∙ sym (slot_binds before _ _ (Some name)))
  | in_default w ↦ λ untaken.
      rw (w.vars-is, w.in_default.is) (c.read_slot-host.ensures.steps untaken c.args.vars.now.table)
]
