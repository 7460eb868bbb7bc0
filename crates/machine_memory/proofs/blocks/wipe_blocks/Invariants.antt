use Rattle.std.proofs.Common.{◌≡◌, ◌++◌, take, drop, map}
use Rattle.machine_memory.proofs.BlockChanges.{wiped}
use Rattle.machine_memory.proofs.blocks.wipe_blocks.Given as goal

abbrev pub invariant-loop-block : goal.invariant-loop-block
invariant-loop-block l = l.blocks
    ≡ map wiped (take l.block-index l.initial.blocks) ++ drop l.block-index l.initial.blocks
