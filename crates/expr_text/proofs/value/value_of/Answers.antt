use Rattle.std.proofs.Common.{◌++◌, sym, ap, ◌∙◌}
use Rattle.std.specs.Prelude.{Ok}
use Rattle.std.proofs.lemmas.Result.{err_from_is_err_and}
use Rattle.expr_text.specs.SeenExpressions.{seen_terms}
use Rattle.expr_text.proofs.ValueLemmas.{joined_error, sum_fault, sum_is_ok, sum_joined}
use Rattle.expr_text.proofs.value.value_of.Goals as goal

pub returns-in_err-len : goal.returns-in_err-len
returns-in_err-len c =
    let p = err_from_is_err_and c.from_residual.result c.from_residual.ensures.1 in
    rw (p.1, p.2) (sum_fault c.args.vars.now.table (seen_terms c.args.terms.now) _
    (sym c.in_err-len.ensures))

pub returns-in_err-append_terms : goal.returns-in_err-append_terms
returns-in_err-append_terms c =
    let p = err_from_is_err_and c.from_residual-in_err-append_terms.result c.from_residual-in_err-append_terms.ensures.1 in
    let whole = sum_joined c.args.vars.now.table (seen_terms c.args.terms.now) _
    (sym c.in_ok-len.ensures) in
    let found = sum_is_ok c.args.vars.now.table (seen_terms c.args.terms.now) _
    (sym c.in_ok-len.ensures) in
    rw (p.1, p.2) (joined_error _ _ _ whole found c.in_err-append_terms.ensures)

pub returns-then-is_err : goal.returns-then-is_err
returns-then-is_err c =
    sum_is_ok c.args.vars.now.table (seen_terms c.args.terms.now) _ (sym c.in_ok-len.ensures)

pub returns : goal.returns
returns c =
    let whole = sum_joined c.args.vars.now.table (seen_terms c.args.terms.now) _
    (sym c.in_ok-len.ensures) in
    let made = c.in_ok-append_terms.ensures in
    whole ∙ made.1 ∙ ap (λ ys. Ok ys)
    (sym (made.2 ∙ ap (λ ys. ys ++ made.0) (c.reserve.ensures.bytes ∙ c.new-made.ensures)))
