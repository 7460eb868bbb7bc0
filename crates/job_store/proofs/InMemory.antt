-- The disk in memory does what any disk may do.
use Rattle.std.proofs.Common.{◌≡◌, Bool, true, false, refl, if◌then◌else◌}
use Rattle.job_store.specs.Contents.{Contents, HasSize}
use Rattle.job_store.specs.Calls.{Call, Read, Write, Sync, Done, Failed, IsOnDisk, MayLeave, Follows}
use Rattle.job_store.specs.Simulated.{Simulated, fails, next}
use Rattle.std.proofs.Common.{inr}

-- a call that failed may leave what was there
nothing-left : (call : Call) (disk : Contents) → HasSize disk → MayLeave call disk disk
nothing-left (Read at count) disk h = refl
nothing-left (Write at bytes) disk h = record {
  size = h;
  stable = refl;
  outside = λ place out. record { byte = refl; dirty = refl };
  inside = λ place inside. inr (record { byte = refl; dirty = refl });
}
nothing-left Sync disk h = refl

pub follows-next : (call : Call) (disk : Simulated) → IsOnDisk call → HasSize disk.contents
    → Follows (if fails disk then Failed call else Done call) disk.contents
    (next call disk).0.contents
follows-next call disk on h = by_test (fails disk) refl where
  by_test : (b : Bool) → fails disk ≡ b
      → Follows (if fails disk then Failed call else Done call) disk.contents
      (next call disk).0.contents
  by_test true e = rw e (on, nothing-left call disk.contents h)
  by_test false e = rw e (on, refl)
