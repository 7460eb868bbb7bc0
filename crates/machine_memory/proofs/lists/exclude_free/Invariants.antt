use Rattle.std.proofs.Common.{◌≡◌, ℕ, ◌<◌, map, get_or, true}
use Rattle.region_pool.specs.Marks.{is_free}
use Rattle.machine_memory.proofs.lists.exclude_free.Given as goal

abbrev pub invariant-loop-frame : goal.invariant-loop-frame
invariant-loop-frame l = (k : ℕ) → k < l.frame
    → get_or l.excluded k true ≡ get_or (map is_free l.pool) k true
