use Rattle.std.proofs.Common.{◌≡◌, ℕ, ◌<◌, ◌≤◌, Some, slice_get}
use Rattle.region_pool.specs.declared.mark.Mark.TheVariants.{Next}
use Rattle.region_pool.proofs.extent.first_of_span.Given as goal

abbrev pub invariant-loop-first : goal.invariant-loop-first
invariant-loop-first l = record {
  before : l.first ≤ l.frame;
  between : (k : ℕ) → l.first < k → k ≤ l.frame → slice_get l.marks k ≡ Some Next;
}

abbrev pub decreases-loop-first : goal.decreases-loop-first
decreases-loop-first l = l.first
