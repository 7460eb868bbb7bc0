use Rattle.expr_text.specs.ExpressionReading.{term_in}
use Rattle.expr_text.specs.SeenExpressions.{seen_term}
use Rattle.expr_text.proofs.AllOfLemmas.{read_step}
use Rattle.expr_text.proofs.SpellingLemmas.{pushed}
use Rattle.expr_text.proofs.spelling.terms_in.Goals as goal

pub loop-piece-preserved : goal.loop-piece-preserved
loop-piece-preserved c =
    read_step term_in seen_term _ c.in-Some.piece.now _ _ _ _ c.in_ok-term.term c.in-Some.ensures
    (pushed _ _ _ _ _ c.is_err.ensures.value c.if-is_err.false c.push.ensures.items)
    c.in_ok-term.ensures c.loop-piece.invariant
