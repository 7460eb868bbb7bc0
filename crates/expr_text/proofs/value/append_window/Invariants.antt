use Rattle.std.proofs.Common.{◌≡◌, ◌-◌, ◌≤◌, ◌++◌, take, drop}
use Rattle.expr_text.specs.SeenExpressions.{seen_suffixes}
use Rattle.expr_text.specs.Windows.{changes_by, source_bytes}
use Rattle.expr_text.proofs.value.append_window.Given as goal

-- so many bytes of the window are appended, as the suffixes leave them
abbrev pub invariant-loop-done : goal.invariant-loop-done
invariant-loop-done l =
    (l.done ≤ l.window.len)
    × (l.made.bytes ≡ l.fn.made.bytes
    ++ changes_by (seen_suffixes l.suffixes) 0 l.window.from
    (take l.done (drop l.window.from (source_bytes l.source))))

abbrev pub decreases-loop-done : goal.decreases-loop-done
decreases-loop-done l = l.window.len - l.done
