-- What stands in a range of places through calls and power cycles.
use Rattle.std.proofs.Common.{◌≡◌, ℕ, ◌+◌, ◌<◌, ◌≤◌, List, [], ◌∷◌, length, refl, sym, ◌∙◌}
use Rattle.std.proofs.Common.{ap, subst, arith, slice_get}
use Rattle.std.specs.Prelude.{All}
use Rattle.std.proofs.lemmas.List.Elements.{All-head, All-tail}
use Rattle.job_store.specs.Pieces.{part}
use Rattle.job_store.specs.Contents.{Contents, HasSize, IsTorn, InRange, IsClean, disk_size}
use Rattle.job_store.specs.Contents.{after_write, after_sync}
use Rattle.job_store.specs.PowerCycle.{after_power_cycle}
use Rattle.job_store.specs.Calls.{Read, Write, Sync, Outcome, Done, Failed, Cycled, Follows}
use Rattle.job_store.specs.Calls.{AllFollow, KeepsPower, IsSpared}
use Rattle.job_store.proofs.Lists.{same_at_each, slice_get-part, length-part}
use Rattle.job_store.proofs.Outcomes.{size-sync, size-power_cycle, torn-write}
use Rattle.job_store.proofs.Outcomes.{clean-power_cycle, clean-in_size, disk_size_is}

-- equal parts of lists
pub part_same : (xs ys : List ℕ) (at count : ℕ) → at + count ≤ length xs → at + count ≤ length ys
    → ((place : ℕ) → InRange at count place → slice_get xs place ≡ slice_get ys place)
    → part xs at count ≡ part ys at count
part_same xs ys at count fits fits' same =
    let long = length-part xs at count fits in
    let long' = length-part ys at count fits' in
    same_at_each (part xs at count) (part ys at count) (omega arith)
    (λ k h. let few : k < count = omega arith in
    slice_get-part xs at count k (at + k) few refl
    ∙ same (at + k) (omega arith, omega arith)
    ∙ sym (slice_get-part ys at count k (at + k) few refl))

module _ (from count : ℕ) (disk : Contents) (fits : from + count ≤ disk_size) where
  -- the range has the working bytes that it had on that disk
  pub record Stands (now : Contents) : Type 0 where
    pub size : HasSize now
    pub working : (place : ℕ) → InRange from count place
        → slice_get now.working place ≡ slice_get disk.working place

  -- and they are stable there
  pub record StandsFast (now : Contents) : Type 0 where
    pub stands : Stands now
    pub stable : (place : ℕ) → InRange from count place
        → slice_get now.stable place ≡ slice_get disk.working place
    pub clean : (place : ℕ) → InRange from count place → IsClean now place

  on_disk : (place : ℕ) → InRange from count place → place < disk_size
  on_disk place inside = omega (arith, inside.0, inside.1, fits)

  -- a write beside the range, done or failed
  stands-torn : (at n : ℕ) (old new : Contents)
      → ((place : ℕ) → InRange from count place → ¬ InRange at n place) → IsTorn at n old new
      → Stands old → Stands new
  stands-torn at n old new apart torn h = record {
    size = torn.size;
    working = λ place inside.
        (torn.outside place (apart place inside)).byte ∙ h.working place inside;
  }

  fast-torn : (at n : ℕ) (old new : Contents)
      → ((place : ℕ) → InRange from count place → ¬ InRange at n place) → IsTorn at n old new
      → StandsFast old → StandsFast new
  fast-torn at n old new apart torn h = record {
    stands = stands-torn at n old new apart torn h.stands;
    stable = λ place inside.
        ap (λ (xs : List ℕ). slice_get xs place) torn.stable ∙ h.stable place inside;
    clean = λ place inside.
        (torn.outside place (apart place inside)).dirty ∙ h.clean place inside;
  }

  -- a sync makes them stable
  pub fast-sync : (old : Contents) → Stands old → StandsFast (after_sync old)
  fast-sync old h = record {
    stands = record { size = size-sync old h.size; working = h.working };
    stable = h.working;
    clean = λ place inside. clean-in_size old place (on_disk place inside);
  }

  fast-power_cycle : (keep : ℕ) (fill : List ℕ) (old : Contents) → StandsFast old
      → StandsFast (after_power_cycle keep fill old)
  fast-power_cycle keep fill old h =
      let now = after_power_cycle keep fill old in
      let size = size-power_cycle keep fill old in
      let bytes : (place : ℕ) → InRange from count place
      → slice_get now.working place ≡ slice_get disk.working place =
      λ place inside.
      clean-power_cycle keep fill old place h.stands.size (on_disk place inside)
      (h.clean place inside)
      ∙ h.stable place inside in
      record {
        stands = record { size = size; working = bytes };
        stable = bytes;
        clean = λ place inside. clean-in_size old place (on_disk place inside);
      }

  -- one outcome more, before the sync
  pub stands-follows : (outcome : Outcome) (old new : Contents) → KeepsPower outcome
      → IsSpared from count outcome → Follows outcome old new → Stands old → Stands new
  stands-follows (Done (Read at n)) old new on spared f h = subst Stands (sym f.1) h
  stands-follows (Done (Write at bytes)) old new on spared f h =
      subst Stands (sym f.1)
      (stands-torn at (length bytes) old (after_write at bytes old) spared
      (torn-write at bytes old (omega (arith, f.0, disk_size_is)) h.size) h)
  stands-follows (Done Sync) old new on spared f h =
      subst Stands (sym f.1) (fast-sync old h).stands
  stands-follows (Failed (Read at n)) old new on spared f h = subst Stands (sym f.1) h
  stands-follows (Failed (Write at bytes)) old new on spared f h =
      stands-torn at (length bytes) old new spared f.1 h
  stands-follows (Failed Sync) old new on spared f h = subst Stands (sym f.1) h
  stands-follows (Cycled keep fill) old new on spared f h = absurd on

  -- and after it
  pub fast-follows : (outcome : Outcome) (old new : Contents) → IsSpared from count outcome
      → Follows outcome old new → StandsFast old → StandsFast new
  fast-follows (Done (Read at n)) old new spared f h = subst StandsFast (sym f.1) h
  fast-follows (Done (Write at bytes)) old new spared f h =
      subst StandsFast (sym f.1)
      (fast-torn at (length bytes) old (after_write at bytes old) spared
      (torn-write at bytes old (omega (arith, f.0, disk_size_is)) h.stands.size) h)
  fast-follows (Done Sync) old new spared f h = subst StandsFast (sym f.1) (fast-sync old h.stands)
  fast-follows (Failed (Read at n)) old new spared f h = subst StandsFast (sym f.1) h
  fast-follows (Failed (Write at bytes)) old new spared f h =
      fast-torn at (length bytes) old new spared f.1 h
  fast-follows (Failed Sync) old new spared f h = subst StandsFast (sym f.1) h
  fast-follows (Cycled keep fill) old new spared f h =
      subst StandsFast (sym f) (fast-power_cycle keep fill old h)

  -- all of them
  pub stands-all : (outcomes : List Outcome) (old new : Contents) → All KeepsPower outcomes
      → All (IsSpared from count) outcomes → AllFollow outcomes old new → Stands old → Stands new
  stands-all [] old new on spared f h = subst Stands (sym f) h
  stands-all (outcome ∷ outcomes) old new on spared f h =
      stands-all outcomes f.0 new (All-tail KeepsPower outcome outcomes on)
      (All-tail (IsSpared from count) outcome outcomes spared) f.2
      (stands-follows outcome old f.0 (All-head KeepsPower outcome outcomes on)
      (All-head (IsSpared from count) outcome outcomes spared) f.1 h)

  pub fast-all : (outcomes : List Outcome) (old new : Contents)
      → All (IsSpared from count) outcomes → AllFollow outcomes old new → StandsFast old
      → StandsFast new
  fast-all [] old new spared f h = subst StandsFast (sym f) h
  fast-all (outcome ∷ outcomes) old new spared f h =
      fast-all outcomes f.0 new (All-tail (IsSpared from count) outcome outcomes spared) f.2
      (fast-follows outcome old f.0 (All-head (IsSpared from count) outcome outcomes spared) f.1 h)

  -- written, synced, and then whatever came
  pub part-stands : (synced later : Contents) (between after : List Outcome) → HasSize disk
      → AllFollow between disk synced → All KeepsPower between → All (IsSpared from count) between
      → AllFollow after (after_sync synced) later → All (IsSpared from count) after
      → part later.working from count ≡ part disk.working from count
  part-stands synced later between after size before on spared next spared' =
      let first : Stands disk = record { size = size; working = λ place inside. refl } in
      let at_sync = stands-all between disk synced on spared before first in
      let last = fast-all after (after_sync synced) later spared' next (fast-sync synced at_sync) in
      part_same later.working disk.working from count
      (omega (arith, last.stands.size.working, fits)) (omega (arith, size.working, fits))
      last.stands.working
