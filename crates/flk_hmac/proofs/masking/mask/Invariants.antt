use Rattle.std.proofs.Common.{◌*◌}
use Rattle.flk_hmac.proofs.Masks.{MaskedBelow}
use Rattle.flk_hmac.proofs.masking.mask.Given as goal

abbrev pub invariant-loop-block : goal.invariant-loop-block
invariant-loop-block l = MaskedBelow l.key l.serial l.fn.bytes l.bytes (20 * l.block)
