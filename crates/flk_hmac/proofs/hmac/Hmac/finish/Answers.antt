use Rattle.std.proofs.Common.{[]}
use Rattle.flk_hmac.specs.Hmac.{Holds, mac}
use Rattle.flk_hmac.proofs.hmac.Hmac.finish.Goals as goal

pub returns : goal.returns
unfolding Holds mac
returns c = λ key text held.
    let block = held.0 in
    let inner = c.finalize.ensures _ held.1 in
    let outer = c.finalize-2.ensures _
    (c.update-2.ensures _ (c.update.ensures [] c.new-outer.ensures)) in
    cc
