use Rattle.std.proofs.Common.{◌≡◌, ℕ, ◌<◌, ◌≤◌, get_or}
use Rattle.job_store.specs.PowerCycle.{byte_after, dirty_below}
use Rattle.job_store.proofs.sim_disk.cycle.Given as goal

-- places below have what they hold then, and the others what they held
abbrev pub invariant-loop-place : goal.invariant-loop-place
invariant-loop-place l =
    record {
      few : l.below ≤ l.place;
      counted : l.below ≡ dirty_below l.dirty l.place;
      cycled : (k : ℕ) → k < l.place → get_or l.stable k 0 ≡ byte_after l.keep l.fill
          (record { working = l.working; stable = l.initial.stable; dirty = l.dirty }) k;
      waiting : (k : ℕ) → l.place ≤ k → get_or l.stable k 0 ≡ get_or l.initial.stable k 0;
    }
