-- What may come of the calls of any disk, one after the other, and of power cycles between them.
use Rattle.std.specs.Prelude.{◌≡◌, ℕ, ◌+◌, ◌≤◌, List, [], ◌∷◌, length}
use Rattle.job_store.specs.declared.sizes.TheConstants.{DISK_LEN}
use Rattle.job_store.specs.Contents.{Contents, InRange, IsTorn, after_write, after_sync}
use Rattle.job_store.specs.PowerCycle.{after_power_cycle}

-- a read of so many bytes from an address on, a write of bytes there, a sync
pub data Call : Type 0 where
  Read : ℕ → ℕ → Call
  Write : ℕ → List ℕ → Call
  Sync : Call

-- the range of the call lies on the disk
abbrev pub IsOnDisk : Call → Type 0
IsOnDisk (Read at count) = at + count ≤ DISK_LEN
IsOnDisk (Write at bytes) = at + length bytes ≤ DISK_LEN
IsOnDisk Sync = Unit {0}

-- the disk once the call was done
abbrev pub after_call : Call → Contents → Contents
after_call (Read at count) disk = disk
after_call (Write at bytes) disk = after_write at bytes disk
after_call Sync disk = after_sync disk

-- what a call may leave that failed
abbrev pub MayLeave : Call → Contents → Contents → Type 0
MayLeave (Read at count) old new = new ≡ old
MayLeave (Write at bytes) old new = IsTorn at (length bytes) old new
MayLeave Sync old new = new ≡ old

-- what came next: a call that was done, or a call that failed, or a power cycle
pub data Outcome : Type 0 where
  Done : Call → Outcome
  Failed : Call → Outcome
  Cycled : ℕ → List ℕ → Outcome

-- the outcome may lead from the old contents to the new ones
abbrev pub Follows : Outcome → Contents → Contents → Type 0
Follows (Done call) old new = IsOnDisk call × (new ≡ after_call call old)
Follows (Failed call) old new = IsOnDisk call × MayLeave call old new
Follows (Cycled keep fill) old new = new ≡ after_power_cycle keep fill old

-- so may all of them, in their order
abbrev pub AllFollow : List Outcome → Contents → Contents → Type 0
AllFollow [] old new = new ≡ old
AllFollow (outcome ∷ outcomes) old new =
    (between : Contents) × Follows outcome old between × AllFollow outcomes between new

-- the power stayed on
abbrev pub KeepsPower : Outcome → Type 0
KeepsPower (Cycled keep fill) = ⊥
KeepsPower _ = Unit {0}

-- the call is no write that has a place in the range
abbrev pub Spares : ℕ → ℕ → Call → Type 0
Spares at count (Write from bytes) =
    (place : ℕ) → InRange at count place → ¬ InRange from (length bytes) place
Spares at count _ = Unit {0}

-- no such write was tried
abbrev pub IsSpared : ℕ → ℕ → Outcome → Type 0
IsSpared at count (Done call) = Spares at count call
IsSpared at count (Failed call) = Spares at count call
IsSpared at count (Cycled keep fill) = Unit {0}
