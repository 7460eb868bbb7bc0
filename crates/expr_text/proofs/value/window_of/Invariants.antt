use Rattle.std.proofs.Common.{◌≡◌, ◌+◌, ◌≤◌, drop}
use Rattle.expr_text.specs.SeenExpressions.{seen_suffixes}
use Rattle.expr_text.specs.Windows.{window_after_all, whole_window}
use Rattle.expr_text.proofs.value.window_of.Given as goal

-- what the suffixes to come leave of the window is what all of them leave
abbrev pub invariant-loop-suffix : goal.invariant-loop-suffix
invariant-loop-suffix l =
    (l.window.from + l.window.len ≤ l.len)
    × (window_after_all (seen_suffixes (drop l.suffix-index l.suffixes)) l.window
    ≡ window_after_all (seen_suffixes l.suffixes) (whole_window l.len))
