use Rattle.std.proofs.Common.{◌*◌, ◌<◌, length, arith, ◌∙◌}
use Rattle.flk_hmac.proofs.Masks.{length-part_of, masked-more, masked-all, begins_before_end}
use Rattle.flk_hmac.proofs.Masks.{ends_all}
use Rattle.flk_hmac.proofs.masking.mask.Goals as goal

pub loop-block-preserved : goal.loop-block-preserved
loop-block-preserved c =
    let begun : 20 * c.loop-block.block < length c.args.bytes.now =
    begins_before_end _ _ (rw (← c.div_ceil-block-end.ensures) c.loop-block-test.true) in
    masked-more _ _ _ _ _ _ _ _ c.loop-block.invariant begun c.min-end.ensures
    (rw (← c.block_text.ensures) c.mac.ensures)
    (c.mask_part.auto.part ∙ length-part_of _ _ _ (omega arith)) c.mask_part.ensures

pub returns : goal.returns
returns c = masked-all _ _ _ _ _ c.loop-block.invariant
    (ends_all _ _ (rw (← c.div_ceil-block-end.ensures) c.loop-block-test.false))
