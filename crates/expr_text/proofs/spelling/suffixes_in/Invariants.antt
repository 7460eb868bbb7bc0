use Rattle.std.proofs.Common.{◌≡◌, length}
use Rattle.expr_text.specs.ExpressionReading.{all_of, suffix_in}
use Rattle.expr_text.specs.Pieces.{suffix_words}
use Rattle.expr_text.specs.SeenExpressions.{seen_suffixes}
use Rattle.expr_text.proofs.AllOfLemmas.{after}
use Rattle.expr_text.proofs.spelling.suffixes_in.Given as goal

-- the suffixes that were read and those to come are those of the text
abbrev pub invariant-loop-word : goal.invariant-loop-word
invariant-loop-word l =
    after (seen_suffixes l.suffixes.items) (all_of suffix_in l.words)
    ≡ all_of suffix_in (suffix_words l.text)

abbrev pub decreases-loop-word : goal.decreases-loop-word
decreases-loop-word l = length l.words
