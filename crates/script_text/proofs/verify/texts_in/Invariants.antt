use Rattle.std.proofs.Common.{◌≡◌, length}
use Rattle.expr_text.specs.ExpressionReading.{all_of}
use Rattle.expr_text.proofs.AllOfLemmas.{after}
use Rattle.script_text.specs.Verify.{value_in}
use Rattle.script_text.proofs.verify.texts_in.Given as goal

-- the texts that were read and those to come are those of the words
abbrev pub invariant-loop-word : goal.invariant-loop-word
invariant-loop-word l = after l.texts (all_of value_in l.words) ≡ all_of value_in l.fn.words

abbrev pub decreases-loop-word : goal.decreases-loop-word
decreases-loop-word l = length l.words
