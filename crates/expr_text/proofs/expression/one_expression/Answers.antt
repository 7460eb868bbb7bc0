use Rattle.std.proofs.Common.{sym, ◌∙◌}
use Rattle.expr_text.proofs.ExpressionLemmas.{found, again}
use Rattle.expr_text.proofs.expression.one_expression.Goals as goal

pub returns-clause-one : goal.returns-clause-one
returns-clause-one c word a b spells_a spells_b =
    let same = sym (again a word spells_a) ∙ again b word spells_b in cc

pub returns-clause-read : goal.returns-clause-read
returns-clause-read c word terms = (again terms word, found word terms)
