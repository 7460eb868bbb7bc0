use Rattle.std.proofs.Common.{◌≡◌, ◌-◌, ◌≤◌, length, take}
use Rattle.machine_memory.specs.Writes.{written}
use Rattle.machine_memory.specs.Blocks.{HasBlocks, bytes_in}
use Rattle.machine_memory.proofs.blocks.write_spans.Given as goal

abbrev pub invariant-loop-done : goal.invariant-loop-done
invariant-loop-done l = record {
  inside : l.done ≤ length l.bytes;
  sound : HasBlocks l.pool l.blocks;
  so_far : bytes_in l.pool l.blocks
      ≡ written (bytes_in l.pool l.initial.blocks) l.at (take l.done l.bytes);
}

abbrev pub decreases-loop-done : goal.decreases-loop-done
decreases-loop-done l = length l.bytes - l.done
