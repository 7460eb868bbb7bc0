use Rattle.std.proofs.Common.{◌≡◌, ◌-◌, ◌^◌, drop}
use Rattle.expr_text.specs.SeenExpressions.{seen_suffixes}
use Rattle.expr_text.specs.Windows.{changes_by, IsWithin}
use Rattle.expr_text.proofs.value.change.Given as goal

-- what the suffixes to come do to the piece is what all of them do
abbrev pub invariant-loop-suffix : goal.invariant-loop-suffix
invariant-loop-suffix l =
    IsWithin (seen_suffixes (drop l.suffix-index l.suffixes)) l.base (2 ^ 64 - 1)
    × (changes_by (seen_suffixes (drop l.suffix-index l.suffixes)) l.base l.start l.piece
    ≡ changes_by (seen_suffixes l.suffixes) 0 l.start l.fn.piece)
