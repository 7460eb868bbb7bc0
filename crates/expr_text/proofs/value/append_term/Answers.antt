use Rattle.std.proofs.Common.{sym, ap, ◌∙◌, arith}
use Rattle.std.specs.Prelude.{Ok}
use Rattle.std.proofs.lemmas.Result.{err_from_is_err_and}
use Rattle.expr_text.specs.SeenExpressions.{seen_suffixes, seen_term}
use Rattle.expr_text.specs.Windows.{window_after_all, source_bytes, whole_window}
use Rattle.expr_text.proofs.WindowLemmas.{within_window_after}
use Rattle.expr_text.proofs.ValueLemmas.{done, remaining, term_left, term_fault}
use Rattle.expr_text.proofs.value.append_term.Goals as goal

pub returns-in_err-window : goal.returns-in_err-window
returns-in_err-window c =
    let p = err_from_is_err_and c.from_residual-in_err-window.result c.from_residual-in_err-window.ensures.1 in
    let found = ap (λ ss. window_after_all (seen_suffixes ss) (whole_window c.source_len.result))
    (sym c.as_slice-suffixes.ensures.value) ∙ sym c.in_err-window.ensures.value in
    let fault = term_fault c.args.vars.now.table
    (seen_term c.args.term.now) _ c.source_len.result _ c.in_ok-source.ensures c.source_len.ensures found in
    rw (p.1, p.2) fault

pub append_window-requires-clause-suffixes : goal.append_window-requires-clause-suffixes
append_window-requires-clause-suffixes c =
    within_window_after (seen_suffixes c.as_slice-suffixes.result.now)
    (whole_window c.source_len.result) c.in_ok-window.window _ (omega arith)
    (sym c.in_ok-window.ensures.value)

pub returns : goal.returns
returns c =
    let slice = c.as_slice-suffixes.ensures.value in
    let xs = source_bytes c.in_ok-source.source in
    let window = c.in_ok-window.window in
    let found = ap (λ ss. window_after_all (seen_suffixes ss) (whole_window c.source_len.result))
    (sym slice) ∙ sym c.in_ok-window.ensures.value in
    let known = term_left c.args.vars.now.table
    (seen_term c.args.term.now) xs c.source_len.result window c.in_ok-source.ensures c.source_len.ensures found in (
      remaining (seen_suffixes c.as_slice-suffixes.result.now) xs window,
      known.0 ∙ ap (λ ss. Ok (remaining (seen_suffixes ss) xs window)) (sym slice),
      done c.append_window.result _ _ c.is_err.ensures.value c.if-is_err.false c.append_window.ensures,
    )
