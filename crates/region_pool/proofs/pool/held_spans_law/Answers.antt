use Rattle.region_pool.proofs.HeldSpans.{held_apart}
use Rattle.region_pool.proofs.pool.held_spans_law.Goals as goal

pub returns : goal.returns
returns c = held_apart _ _ _ c.requires.one c.requires.other
