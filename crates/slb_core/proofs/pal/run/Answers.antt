use Rattle.std.proofs.Common.{arith}
use Rattle.slb_core.proofs.PalLemmas.{rest_all, rest_next, rest_lost, rest_over, rest_none}
use Rattle.slb_core.proofs.pal.run.Goals as goal

pub loop-done-init : goal.loop-done-init
loop-done-init c = rest_all c.args.job c.args.budget c.args.start c.args.session.now c.args.dma.now

pub returns-in-Ok-Over : goal.returns-in-Ok-Over
returns-in-Ok-Over c =
    let t = rw (c.device_writes.ensures.session, c.in-Ok-Over.is, c.in-Ok-Over.field-0-is) at c.take_turn.ensures in
    rw c.device_writes.ensures.ended
    (rest_over c.args.job c.args.budget c.loop-done.done c.args.start c.loop-done.cpu c.args.session.now c.loop-done.session c.take_turn.new.session c.args.dma.now c.loop-done.dma c.take_turn.new.outputs c.take_turn.new.cpu
    c.loop-done.invariant c.loop-done-test.true c.in-Ok-Over.ending t)

pub returns-in-Err : goal.returns-in-Err
returns-in-Err c =
    let t = rw (c.device_writes.ensures.session, c.in-Err.is) at c.take_turn.ensures in
    rw c.device_writes.ensures.ended
    (rest_lost c.args.job c.args.budget c.loop-done.done c.args.start c.loop-done.cpu c.args.session.now c.loop-done.session c.take_turn.new.session c.args.dma.now c.loop-done.dma c.take_turn.new.outputs c.take_turn.new.cpu
    c.loop-done.invariant c.loop-done-test.true t)

pub loop-done-preserved : goal.loop-done-preserved
loop-done-preserved c =
    let t = rw (c.device_writes.ensures.session, c.in-Ok-Next.is, c.in-Ok-Next.field-0-is) at c.take_turn.ensures in
    rw c.device_writes.ensures.ended
    (rest_next c.args.job c.args.budget c.loop-done.done c.args.start c.loop-done.cpu c.args.session.now c.loop-done.session c.take_turn.new.session c.args.dma.now c.loop-done.dma c.take_turn.new.outputs c.take_turn.new.cpu
    c.loop-done.invariant c.loop-done-test.true t)

pub returns : goal.returns
returns c =
    rest_none c.args.job c.args.budget c.loop-done.done c.args.start c.loop-done.cpu c.args.session.now c.loop-done.session c.args.dma.now c.loop-done.dma c.loop-done.outputs c.loop-done.invariant (omega arith)
