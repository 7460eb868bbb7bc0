-- Commands to the slots of a disk, as a plan gives them.
use Rattle.std.specs.Prelude.{◌≡◌, ℕ, ◌≤◌, Bool, true, false, List, Option, Result, Ok, Err}
use Rattle.flk_base.specs.Causes.{Rose}
use Rattle.flk_base.specs.Plan.{Machine}
use Rattle.job_store.specs.declared.sizes.TheConstants.{SLOT_LEN}
use Rattle.job_store.specs.declared.disk.DiskFailed.{DiskFailed}
use Rattle.job_store.specs.Contents.{Contents}
use Rattle.job_store.specs.Calls.{Call, Read, Sync, Outcome, Done, Failed, Follows}
use Rattle.job_store.specs.Simulated.{Simulated, next}
use Rattle.job_store.specs.Slots.{slot_at, stored, slot_write}

-- to read the blob of slot s of job j, to store a blob there, and to sync the disk
pub data SlotCommand : Type 0 where
  ReadSlot : (j s : ℕ) → SlotCommand
  WriteSlot : (j s : ℕ) → (blob : List ℕ) → SlotCommand
  SyncSlots : SlotCommand

-- the reply: what was read is a blob, if the slot holds one
abbrev pub SlotReply : SlotCommand → Type 0
SlotReply (ReadSlot j s) = Result (Option (List ℕ)) DiskFailed
SlotReply (WriteSlot j s blob) = Result (Unit {0}) DiskFailed
SlotReply SyncSlots = Result (Unit {0}) DiskFailed

-- the call of the disk by which it is carried out
abbrev pub call_of : SlotCommand → Call
call_of (ReadSlot j s) = Read (slot_at j s) SLOT_LEN
call_of (WriteSlot j s blob) = slot_write j s blob
call_of SyncSlots = Sync

-- the error of a disk that failed
abbrev pub disk_failed : DiskFailed
disk_failed = record {}

-- the reply, by whether the call was done, of a disk with these contents
abbrev pub reply_of : (c : SlotCommand) → Bool → Contents → SlotReply c
reply_of (ReadSlot j s) true disk = Ok (stored j s disk)
reply_of (ReadSlot j s) false disk = Err disk_failed
reply_of (WriteSlot j s blob) true disk = Ok tt
reply_of (WriteSlot j s blob) false disk = Err disk_failed
reply_of SyncSlots true disk = Ok tt
reply_of SyncSlots false disk = Err disk_failed

-- ---- on any disk, by its contents, its count of faults, and what else it makes known of a call

-- what came of a call that was done or failed
abbrev pub outcome : Call → Bool → Outcome
outcome call true = Done call
outcome call false = Failed call

-- the count of faults rose where the call failed, and never else
abbrev pub CountsFault : Bool → ℕ → ℕ → Type 0
CountsFault true before now = now ≡ before
CountsFault false before now = (before ≤ now) × Rose before now

module _ {D : Type 0} (contents : D → Contents) (faults : D → ℕ) (gives : D → Call → Bool → D → Type 0) where
  -- the disk was called, and the call was done or failed
  pub record WasCalled (call : Call) (done : Bool) (old new : D) : Type 0 where
    pub follows : Follows (outcome call done) (contents old) (contents new)
    pub cause : CountsFault done (faults old) (faults new)
    pub known : gives old call done new

  -- the command may have this reply, and leave the disk so
  pub record MayReply (c : SlotCommand) (old new : D) (reply : SlotReply c) : Type 0 where
    pub done : Bool
    pub called : WasCalled (call_of c) done old new
    pub replied : reply ≡ reply_of c done (contents old)

-- the disk in memory replies so
abbrev pub slot_act : Machine SlotCommand SlotReply Simulated
slot_act c disk = ((next (call_of c) disk).0, reply_of c (next (call_of c) disk).1 disk.contents)
