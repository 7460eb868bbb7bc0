use Rattle.std.proofs.Common.{arith}
use Rattle.region_pool.proofs.FrameSpans.{taken-held}
use Rattle.machine_tests.proofs.turns.lies_in_one.Goals as goal

pub taken_frame_law-requires : goal.taken_frame_law-requires
taken_frame_law-requires c =
    let span = c.args.span.now in
    let some = c.requires.some in
    rw c.first.ensures
    (taken-held c.args.memory.now.marks span span.first c.requires
    (record { begun = omega arith; unended = omega arith }))
