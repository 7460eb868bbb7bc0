use Rattle.std.proofs.Common.{◌≡◌, ◌+◌, ◌≤◌, ◌++◌, replicate}
use Rattle.pal_asm.proofs.spelling.put_zeros.Given as goal

abbrev pub invariant-loop-i : goal.invariant-loop-i
invariant-loop-i l =
    (l.code.bytes ≡ l.initial.code.bytes ++ replicate l._i 0) × (l.count ≤ l.code.spare + l._i)
