use Rattle.std.proofs.Common.{◌≡◌, ℕ, ◌-◌, ◌<◌, ◌≤◌, length, Some, slice_get}
use Rattle.region_pool.specs.declared.mark.Mark.TheVariants.{Next}
use Rattle.region_pool.proofs.extent.end_of_span.Given as goal

abbrev pub invariant-loop-end : goal.invariant-loop-end
invariant-loop-end l = record {
  after : l.frame < l.end;
  inside : l.end ≤ length l.marks;
  between : (k : ℕ) → l.frame < k → k < l.end → slice_get l.marks k ≡ Some Next;
}

abbrev pub decreases-loop-end : goal.decreases-loop-end
decreases-loop-end l = length l.marks - l.end
