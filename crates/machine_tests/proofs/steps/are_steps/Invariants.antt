use Rattle.std.proofs.Common.{◌≡◌}
use Rattle.machine_tests.proofs.steps.are_steps.Given as goal

-- the marks stay
abbrev pub invariant-loop-step : goal.invariant-loop-step
invariant-loop-step l = l.memory.marks ≡ l.fn.memory.marks
