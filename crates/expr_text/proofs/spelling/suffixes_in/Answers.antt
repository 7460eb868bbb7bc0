use Rattle.std.proofs.Common.{sym}
use Rattle.expr_text.specs.ExpressionReading.{suffix_in}
use Rattle.expr_text.specs.SeenExpressions.{seen_suffix}
use Rattle.expr_text.proofs.AllOfLemmas.{read_step}
use Rattle.expr_text.proofs.SpellingLemmas.{pushed}
use Rattle.expr_text.proofs.spelling.suffixes_in.Goals as goal

pub loop-word-preserved : goal.loop-word-preserved
loop-word-preserved c =
    read_step suffix_in seen_suffix _ c.in-Some.word.now _ _ _ _ c.in-Some-suffix_in.suffix c.in-Some.ensures
    (pushed _ _ _ _ _ c.is_err.ensures.value c.if-is_err.false c.push.ensures.items)
    (sym c.in-Some-suffix_in.ensures) c.loop-word.invariant
