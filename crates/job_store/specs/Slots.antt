-- The slots of jobs on a disk. Each holds a blob or none: how many bytes the blob has, in two bytes,
-- the higher first, and then the blob. A length of 0, and one past what a slot has room for, says
-- that there is none.
use Rattle.std.specs.Prelude.{◌≡◌, ℕ, ◌+◌, ◌*◌, ◌≤◌, nat_lt, nat_le, ◌&&◌, List, ◌++◌}
use Rattle.std.specs.Prelude.{length, Bool, true, false, Option, Some, None, Result, Ok, Err}
use Rattle.std.specs.Prelude.{if◌then◌else◌}
use Rattle.byteorder.specs.Endian.{big_number, big_bytes}
use Rattle.flk_base.specs.Causes.{Rose}
use Rattle.flk_base.specs.Stop.{Limit, spent}
use Rattle.job_store.specs.declared.sizes.TheConstants.{SLOT_LEN, LONGEST_BLOB}
use Rattle.job_store.specs.declared.slots.SlotFault.{SlotFault}
use Rattle.job_store.specs.declared.slots.SlotFault.TheVariants.{DiskFault, NoBlob, PowerLost}
use Rattle.job_store.specs.Pieces.{part}
use Rattle.job_store.specs.Contents.{Contents, after_write}
use Rattle.job_store.specs.Calls.{Call, Write, Outcome, IsSpared}

-- the address of slot s of job j, where s is 0 or 1
abbrev pub slot_at : ℕ → ℕ → ℕ
slot_at j s = (2 * j + s) * SLOT_LEN

-- the bytes of a slot
abbrev pub slot_bytes : ℕ → ℕ → Contents → List ℕ
slot_bytes j s disk = part disk.working (slot_at j s) SLOT_LEN

-- the blob of a slot with these bytes, if it holds one
abbrev pub blob_in : List ℕ → Option (List ℕ)
blob_in bytes =
    let count = big_number 2 bytes in
    if nat_lt 0 count && nat_le count LONGEST_BLOB then Some (part bytes 2 count) else None

-- the blob of a slot, if it holds one
abbrev pub stored : ℕ → ℕ → Contents → Option (List ℕ)
stored j s disk = blob_in (slot_bytes j s disk)

-- the bytes that stand for a blob: its length, and the blob
abbrev pub entry : List ℕ → List ℕ
entry blob = big_bytes 2 (length blob) ++ blob

-- the write of a blob to a slot
abbrev pub slot_write : ℕ → ℕ → List ℕ → Call
slot_write j s blob = Write (slot_at j s) (entry blob)

-- the disk once the blob was written to the slot: beside the slot's first bytes all is as it was
abbrev pub with_blob : ℕ → ℕ → List ℕ → Contents → Contents
with_blob j s blob disk = after_write (slot_at j s) (entry blob) disk

-- no write was tried that has a place in the slot
abbrev pub SparesSlot : ℕ → ℕ → Outcome → Type 0
SparesSlot j s outcome = IsSpared (slot_at j s) SLOT_LEN outcome

-- ---- how a call on a slot ends

-- the count of faults rose where the disk failed, and never else
abbrev pub HasSlotCause : {T : Type 0} → ℕ → ℕ → Result T SlotFault → Type 0
HasSlotCause before now (Ok x) = now ≡ before
HasSlotCause before now (Err DiskFault) = (before ≤ now) × Rose before now
HasSlotCause before now (Err NoBlob) = now ≡ before
HasSlotCause before now (Err PowerLost) = now ≡ before

-- One call of the disk was made, of which it gives what it makes known, or none where the power was
-- lost before it. That there is no blob is found once the disk was read.
abbrev pub MakesCall : {D T : Type 0} → (D → Call → Bool → D → Type 0) → Call → D → D
    → Result T SlotFault → Type 0
MakesCall gives call old new (Ok x) = gives old call true new
MakesCall gives call old new (Err DiskFault) = gives old call false new
MakesCall gives call old new (Err NoBlob) = gives old call true new
MakesCall gives call old new (Err PowerLost) = new ≡ old

-- one step was taken from the fuse, or the power was lost because there was none, and the fuse stays
abbrev pub TakesStep : {T : Type 0} → Limit → Limit → Result T SlotFault → Type 0
TakesStep old new (Err PowerLost) = (old ≡ Some 0) × (new ≡ old)
TakesStep old new _ = spent true old ≡ Some new
