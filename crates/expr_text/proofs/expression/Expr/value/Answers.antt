use Rattle.expr_text.specs.SeenExpressions.{seen_terms}
use Rattle.expr_text.proofs.ValueLemmas.{short_if}
use Rattle.expr_text.proofs.expression.Expr.value.Goals as goal

pub returns-clause-short : goal.returns-clause-short
returns-clause-short c =
    short_if (λ made. made.bytes) c.value_of.result
    (seen_terms c.as_slice.result.now) c.args.vars.now.table c.value_of.ensures
