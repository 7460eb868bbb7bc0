use Rattle.std.proofs.Common.{◌≡◌, replicate}
use Rattle.machine_memory.specs.Contents.{first_byte}
use Rattle.machine_memory.specs.Spans.{with_bytes}
use Rattle.machine_tests.proofs.loans.stamp.Given as goal

abbrev pub invariant-loop-offset : goal.invariant-loop-offset
invariant-loop-offset l =
    l.memory ≡ with_bytes l.initial.memory (first_byte l.span.first) (replicate l.offset l.byte)
