use Rattle.std.proofs.Common.{arith}
use Rattle.region_pool.proofs.FrameSpans.{taken_within}
use Rattle.machine_memory.specs.Contents.{frame_of}
use Rattle.machine_memory.proofs.blocks.span_of.Goals as goal

pub overflow_cast-at : goal.overflow_cast-at
overflow_cast-at c =
    let within = taken_within c.args.pool.now (frame_of c.args.at) c.requires.taken in
    let small = c.requires.small in
    record { fits = omega arith }
