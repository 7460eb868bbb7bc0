use Rattle.std.proofs.Common.{◌≡◌, ◌++◌, ℕ, List, drop}
use Rattle.expr_text.specs.SeenExpressions.{seen_terms}
use Rattle.expr_text.specs.Windows.{values_of}
use Rattle.expr_text.proofs.ValueLemmas.{after}
use Rattle.expr_text.proofs.value.append_terms.Given as goal

-- these bytes are appended, and what the terms to come add to them is what all of them have
abbrev pub invariant-loop-term : goal.invariant-loop-term
invariant-loop-term l =
    (bytes : List ℕ) × (l.made.bytes ≡ l.fn.made.bytes ++ bytes)
    × (after bytes (values_of l.vars.table (seen_terms (drop l.term-index l.terms)))
    ≡ values_of l.vars.table (seen_terms l.terms))
