use Rattle.late_launch.proofs.RegionLemmas.{page_small}
use Rattle.late_launch.proofs.region.page_at.Goals as goal

pub overflow_mul-result : goal.overflow_mul-result
overflow_mul-result c = record { fits = rw c.first.ensures (page_small c.args.memory.now c.args.area.now c.args.number c.frame_law.ensures c.requires.placed c.requires.small) }
