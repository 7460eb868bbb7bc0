use Rattle.std.proofs.Common.{get_or, ap}
use Rattle.machine_memory.proofs.BlockChanges.{wiped}
use Rattle.machine_memory.proofs.DmaLemmas.{at_turn, rewritten_more}
use Rattle.machine_memory.proofs.blocks.wipe_blocks.Goals as goal

pub loop-block-preserved : goal.loop-block-preserved
loop-block-preserved c =
    let list = c.args.blocks.now in
    let now = c.loop-block.blocks in
    let i = c.loop-block.block-index in
    let block = get_or now i c.block-item.result in
    rewritten_more wiped list now i block c.wipe_all.new.self c.loop-block-test.true
    c.loop-block.invariant
    (at_turn wiped list now i block c.loop-block-test.true c.loop-block.invariant
    (ap (get_or now i) c.block-item.is))
    c.wipe_all.ensures
