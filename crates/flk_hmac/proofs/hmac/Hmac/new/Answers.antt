use Rattle.std.proofs.Common.{[], append-nil}
use Rattle.flk_hmac.specs.Hmac.{Holds}
use Rattle.flk_hmac.proofs.hmac.Hmac.new.Goals as goal

pub returns : goal.returns
unfolding Holds
returns c = (
  c.key_block-block.ensures,
  rw (append-nil, ← c.key_block-block.ensures, ← c.padded_block.ensures)
      (c.update.ensures [] c.new-inner.ensures),
)
