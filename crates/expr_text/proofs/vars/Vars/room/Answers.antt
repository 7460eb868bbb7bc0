use Rattle.std.proofs.Common.{◌∙◌, ap}
use Rattle.expr_text.proofs.VariableLemmas.{same_tables, short_same}
use Rattle.expr_text.proofs.vars.Vars.room.Goals as goal

pub invariant_of-self : goal.invariant_of-self
invariant_of-self c = short_same _ _ c.reserve.ensures.entries.2 c.self.invariant

pub returns-clause-table : goal.returns-clause-table
returns-clause-table c =
    same_tables _ _ c.reserve.ensures.entries.2 ∙ ap (λ v. v.table) c.self.view_is
