use Rattle.std.proofs.Common.{◌∙◌, ap}
use Rattle.std.specs.FinMap.{insert}
use Rattle.expr_text.proofs.VariableLemmas.{one_bound, short_bound}
use Rattle.expr_text.proofs.vars.Vars.set.Goals as goal

pub invariant_of-self : goal.invariant_of-self
invariant_of-self c =
    short_bound _ _ c.args.name.now c.args.value
    (rw c.new.ensures at c.in-Ok.ensures.updates.0) c.requires.short c.self.invariant

pub returns-in-Ok-clause-ok : goal.returns-in-Ok-clause-ok
returns-in-Ok-clause-ok c =
    one_bound _ _ c.args.name.now c.args.value (rw c.new.ensures at c.in-Ok.ensures.updates.0)
    ∙ ap (λ v. insert v.table c.args.name.now c.args.value.bytes) c.self.view_is
