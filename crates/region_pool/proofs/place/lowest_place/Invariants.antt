use Rattle.std.proofs.Common.{◌≤◌, ◌+◌}
use Rattle.region_pool.proofs.Search.{IsSearched}
use Rattle.region_pool.proofs.place.lowest_place.Given as goal

abbrev pub invariant-loop-frame : goal.invariant-loop-frame
invariant-loop-frame l = record {
  searched : IsSearched l.marks l.frames l.align l.candidate l.frame;
  near : l.candidate ≤ l.frame + l.align;
}
