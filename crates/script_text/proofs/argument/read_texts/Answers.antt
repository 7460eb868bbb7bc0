use Rattle.std.proofs.Common.{refl, []}
use Rattle.std.proofs.lemmas.List.{map-id}
use Rattle.expr_text.specs.ExpressionReading.{expression_of}
use Rattle.expr_text.proofs.AllOfLemmas.{read_end}
use Rattle.script_text.proofs.argument.read_texts.Goals as goal

pub returns-clause-exact : goal.returns-clause-exact
returns-clause-exact c =
    let texts = c.loop-word.texts in
    let whole = read_end expression_of (λ terms. terms) texts [] c.loop-word.words [] _ c.in_default.ensures.0 c.loop-word.invariant.all in
    rw (whole, map-id texts) refl
