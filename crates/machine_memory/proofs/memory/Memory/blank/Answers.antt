use Rattle.machine_memory.proofs.InBlocks.{in-blank, contents-blank}
use Rattle.machine_memory.proofs.memory.Memory.blank.Goals as goal

pub invariant_of-result : goal.invariant_of-result
invariant_of-result c =
    rw (
      c.in_ok-pool.ensures,
      c.in_ok-excluded.ensures,
      c.in_ok-blocks.ensures,
      c.frames_of_memory-frames.ensures.same,
    ) in-blank

pub returns : goal.returns
returns c =
    rw (
      c.in_ok-pool.ensures,
      c.in_ok-excluded.ensures,
      c.in_ok-blocks.ensures,
      c.frames_of_memory-frames.ensures.same,
    ) contents-blank
