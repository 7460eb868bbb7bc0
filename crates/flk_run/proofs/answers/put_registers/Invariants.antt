use Rattle.std.proofs.Common.{◌≡◌, ◌+◌, ◌*◌, ◌≤◌, ◌++◌, take}
use Rattle.flk_run.specs.Answers.{spaced}
use Rattle.flk_run.proofs.answers.put_registers.Given as goal

-- the values so far stand there, and there is room for the others
abbrev pub invariant-loop-value : goal.invariant-loop-value
invariant-loop-value l = record {
  bytes : l.out.bytes ≡ l.initial.out.bytes ++ spaced (take l.value-index l.values);
  spare : l.initial.out.spare ≤ l.out.spare + 11 * l.value-index;
}
