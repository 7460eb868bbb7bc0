use Rattle.std.proofs.Common.{◌≡◌, ◌≤◌, length, map}
use Rattle.expr_text.specs.ExpressionReading.{all_of, expression_of}
use Rattle.expr_text.proofs.AllOfLemmas.{after}
use Rattle.script_text.proofs.argument.read_texts.Given as goal

-- the texts that were read and those to come are those of all words
abbrev pub invariant-loop-word : goal.invariant-loop-word
invariant-loop-word l = record {
  fewer : length l.words ≤ length l.fn.words;
  all : after (map (λ terms. terms) l.texts) (all_of expression_of l.words)
      ≡ all_of expression_of l.fn.words;
}

abbrev pub decreases-loop-word : goal.decreases-loop-word
decreases-loop-word l = length l.words
