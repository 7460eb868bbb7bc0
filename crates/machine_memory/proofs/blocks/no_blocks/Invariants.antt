use Rattle.std.proofs.Common.{◌≡◌, [], replicate}
use Rattle.machine_memory.proofs.blocks.no_blocks.Given as goal

abbrev pub invariant-loop-frame : goal.invariant-loop-frame
invariant-loop-frame l = l.blocks.items ≡ replicate l._frame []
