use Rattle.std.proofs.Common.{ℕ, ◌+◌, List, ap, sym, ◌∙◌}
use Rattle.flk_run.specs.Tasks.{values_of}
use Rattle.std.specs.Prelude.{drop}
use Rattle.flk_run.proofs.CheckLemmas.{with_values, values_more, values_fault}
use Rattle.flk_run.proofs.checks.worths.Goals as goal

pub returns-in-Err : goal.returns-in-Err
returns-in-Err c =
    c.loop-i.invariant
    ∙ values_fault c.args.expressions.now c.args.vars.now.table c.loop-i.i _ c.in-Some.expression.now
    c.in-Err.fault (sym c.in-Some.ensures) (rw c.in-Err.is at c.in_ok-value.ensures.worth)

pub loop-i-preserved : goal.loop-i-preserved
loop-i-preserved c =
    c.loop-i.invariant
    ∙ values_more c.args.expressions.now c.args.vars.now.table c.loop-i.i _ c.in-Some.expression.now
    c.in-Ok.value.bytes (sym c.in-Some.ensures) (rw c.in-Ok.is at c.in_ok-value.ensures.worth)
    ∙ ap (λ (made : List (List ℕ)).
    with_values made (values_of (drop (c.loop-i.i + 1) c.args.expressions.now) c.args.vars.now.table))
    (sym c.in_ok-push_value-in-Ok.ensures)
