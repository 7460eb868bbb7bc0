use Rattle.std.proofs.Common.{◌≤◌, arith}
use Rattle.region_pool.specs.Spans.{Holds}
use Rattle.machine_tests.proofs.Apart.{differ_from_apart}
use Rattle.machine_tests.proofs.loans.are_lent.Goals as goal

pub give_wiped-requires-3 : goal.give_wiped-requires-3
give_wiped-requires-3 c =
    let one = c.in-Ok-take.one in
    let other = c.in-Ok-take-2.other in
    let took = c.in-Ok-take-2.ensures in
    let held = c.in-Ok-take.ensures.held in
    let still : Holds c.are_apart-is_right.new.memory.marks one =
    rw c.are_apart-is_right.ensures (took.others_held one held) in
    let some : 1 ≤ other.frames = (let long = took.frames in omega arith) in
    c.give_wiped-2.ensures.others_held one still
    (differ_from_apart other one some (took.apart one held))
