use Rattle.std.proofs.Common.{◌≡◌, length}
use Rattle.expr_text.specs.ExpressionReading.{all_of, term_in, expression_of}
use Rattle.expr_text.specs.SeenExpressions.{seen_terms}
use Rattle.expr_text.proofs.AllOfLemmas.{after}
use Rattle.expr_text.proofs.spelling.terms_in.Given as goal

-- the terms that were read and those to come are those of the word
abbrev pub invariant-loop-piece : goal.invariant-loop-piece
invariant-loop-piece l =
    after (seen_terms l.terms.items) (all_of term_in l.pieces) ≡ expression_of l.word

abbrev pub decreases-loop-piece : goal.decreases-loop-piece
decreases-loop-piece l = length l.pieces
