use Rattle.std.proofs.Common.{◌≡◌}
use Rattle.machine_tests.proofs.turns.are_turns.Given as goal

-- the marks stay
abbrev pub invariant-loop-row : goal.invariant-loop-row
invariant-loop-row l = l.memory.marks ≡ l.initial.memory.marks
