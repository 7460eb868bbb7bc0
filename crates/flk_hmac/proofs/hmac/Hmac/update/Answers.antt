use Rattle.std.proofs.Common.{append_assoc}
use Rattle.flk_hmac.specs.Hmac.{Holds}
use Rattle.flk_hmac.proofs.hmac.Hmac.update.Goals as goal

pub returns : goal.returns
unfolding Holds
returns c = λ key text held. (held.0, rw (← append_assoc) (c.update.ensures _ held.1))
