use Rattle.std.proofs.Common.{arith}
use Rattle.flk_hmac.proofs.Sameness.{same_none, same_more, same_all}
use Rattle.flk_hmac.proofs.comparing.is_same.Goals as goal

pub loop-i-init : goal.loop-i-init
loop-i-init c = same_none _ _

pub loop-i-preserved : goal.loop-i-preserved
loop-i-preserved c = same_more _ _ _ _ c.loop-i.invariant

pub returns : goal.returns
returns c = same_all _ _ _ c.loop-i.i (omega arith) (omega arith) c.loop-i.invariant
