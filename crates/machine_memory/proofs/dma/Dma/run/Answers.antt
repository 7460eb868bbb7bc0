use Rattle.std.proofs.Common.{get_or, ap}
use Rattle.machine_memory.proofs.DmaLemmas.{run_none, run_more}
use Rattle.machine_memory.proofs.dma.Dma.run.Goals as goal

pub loop-write-init : goal.loop-write-init
loop-write-init c = run_none _ _ _

pub loop-write-preserved : goal.loop-write-preserved
loop-write-preserved c =
    let now = c.loop-write.write-items in
    let done = c.loop-write.write-index in
    run_more _ _ _ done _ _ now (get_or now done c.write-item.result) _ c.loop-write.invariant
    c.loop-write-test.true
    (ap (get_or now done) c.write-item.is) c.run.ensures.memory c.run.ensures.ended
