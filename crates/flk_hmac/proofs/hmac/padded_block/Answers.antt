use Rattle.std.proofs.Common.{◌<◌, length}
use Rattle.flk_hmac.proofs.Pads.{pad_more}
use Rattle.flk_hmac.proofs.hmac.padded_block.Goals as goal

pub loop-byte-preserved : goal.loop-byte-preserved
loop-byte-preserved c =
    let inside : c.loop-byte.byte-index < length c.args.block.now =
    rw c.told-block c.loop-byte-test.true in
    pad_more _ _ _ _ inside c.loop-byte.invariant
