use Rattle.std.proofs.Common.{◌≡◌, ◌≤◌, drop}
use Rattle.expr_text.specs.SeenExpressions.{seen_terms}
use Rattle.expr_text.specs.Windows.{sum_length}
use Rattle.expr_text.specs.declared.value.TheConstants.{LONGEST_VALUE}
use Rattle.expr_text.proofs.value.sum_length.Given as goal

-- the sum so far, and what the terms to come add
abbrev pub invariant-loop-term : goal.invariant-loop-term
invariant-loop-term l =
    (l.sum ≤ LONGEST_VALUE) × (sum_length l.vars.table l.sum
    (seen_terms (drop l.term-index l.terms)) ≡ sum_length l.vars.table 0 (seen_terms l.terms))
