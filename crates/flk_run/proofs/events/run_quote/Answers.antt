use Rattle.std.proofs.Common.{ap, sym, ◌∙◌, Some}
use Rattle.flk_run.specs.Seen.{platform_at}
use Rattle.flk_run.proofs.BindingLemmas.{shown_too, quote_binds}
use Rattle.flk_run.proofs.events.run_quote.Goals.{in-Some, in_default}
use Rattle.flk_run.proofs.events.run_quote.Goals as goal

pub returns-clause-done : goal.returns-clause-done
returns-clause-done c = elim c.match-bound.branch [
  | in-Some w ↦ λ untaken.
      let before = platform_at c.args.host c.args.vars.now.table in
      let name = w.in-Some.field-0.name.now in
      rw (w.vars-is, w.in-Some.is, w.bind_bytes.ensures)
      (ap (shown_too (Some name)) (c.quote-host.ensures.steps untaken c.args.vars.now.table)
      ∙ sym (quote_binds before c.args.nonce.now (Some name)))
  | in_default w ↦ λ untaken.
      rw (w.vars-is, w.in_default.is) (c.quote-host.ensures.steps untaken c.args.vars.now.table)
]
