use Rattle.std.proofs.Common.{sym, ap, ◌∙◌}
use Rattle.std.specs.Prelude.{Ok}
use Rattle.std.proofs.lemmas.Result.{err_from_is_err_and}
use Rattle.expr_text.specs.SeenExpressions.{seen_suffixes, seen_term}
use Rattle.expr_text.specs.Windows.{window_after_all, whole_window, length_of}
use Rattle.expr_text.proofs.ValueLemmas.{term_left, term_fault}
use Rattle.expr_text.proofs.value.term_length.Goals as goal

pub returns-in_err-window : goal.returns-in_err-window
returns-in_err-window c =
    let p = err_from_is_err_and c.from_residual-in_err-window.result c.from_residual-in_err-window.ensures.1 in
    let found = ap (λ ss. window_after_all (seen_suffixes ss) (whole_window c.source_len.result))
    (sym c.as_slice.ensures.value) ∙ sym c.in_err-window.ensures.value in
    let fault = term_fault c.args.vars.now.table
    (seen_term c.args.term.now) _ c.source_len.result _ c.in_ok-source.ensures c.source_len.ensures found in
    rw (p.1, p.2) (ap length_of (sym fault))

pub returns : goal.returns
returns c =
    let found = ap (λ ss. window_after_all (seen_suffixes ss) (whole_window c.source_len.result))
    (sym c.as_slice.ensures.value) ∙ sym c.in_ok-window.ensures.value in
    let left = term_left c.args.vars.now.table
    (seen_term c.args.term.now) _ c.source_len.result _ c.in_ok-source.ensures c.source_len.ensures found in
    ap (λ n. Ok n) (sym left.1) ∙ ap length_of (sym left.0)
