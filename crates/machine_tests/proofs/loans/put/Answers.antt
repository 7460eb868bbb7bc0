use Rattle.std.proofs.Common.{arith}
use Rattle.machine_memory.proofs.MemoryLemmas.{after_loan-set, span_within}
use Rattle.machine_tests.proofs.loans.put.Goals as goal

pub returns : goal.returns
returns c =
    let within =
    span_within c.args.memory.now c.args.span.now c.args.span.now.frames c.frame_law.ensures
    c.requires.held (omega arith) in
    rw c.lend_mut.ensures.bytes
    (after_loan-set c.args.memory.now c.args.span.now c.args.offset c.args.byte within
    c.requires.inside)
