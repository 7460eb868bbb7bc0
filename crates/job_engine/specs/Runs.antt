-- How a call in parts may end, on a device with its fuse and on any disk.
use Rattle.std.specs.Prelude.{◌≡◌, ◌⊎◌, ℕ, nat_lt, Bool, true, List, replicate, length, Option, Some, None, Result, Ok, Err, if◌then◌else◌}
use Rattle.flk_base.specs.Plan.{Plan, Return, Ask}
use Rattle.flk_base.specs.Stop.{Limit, spent, Fused, with_fuse}
use Rattle.seal_device.specs.Digests.{DigestDevice, on_device}
use Rattle.slb_core.specs.Services.{longest_outputs}
use Rattle.slb_core.specs.Pal.{PalEnd}
use Rattle.session_driver.specs.Quiet.{quiet_plan}
use Rattle.job_store.specs.Commands.{SlotCommand, SlotReply}
use Rattle.job_engine.specs.Calls.{Part, MakeRoom, RunSession, OnSlots, Gives, Unbegun, HasLongInputs, HasNoPlace}

-- how a call or a part of one ended: with a value, because there was no memory, or because the power was lost
pub data Ended (X : Type 0) : Type 0 where
  With : X → Ended X
  OutOfMemory : Ended X
  WithoutPower : Ended X

-- a device with its fuse, and a disk
abbrev pub Machines : Type 0 → Type 0
Machines D = Fused DigestDevice × D

-- the nonce of the sessions of jobs
abbrev pub job_nonce : List ℕ
job_nonce = replicate 20 0

-- a session of an image, as a plan of the device runs that took the place of memory
abbrev pub session_end : Option PalEnd → Ended (Result PalEnd Unbegun)
session_end None = WithoutPower
session_end (Some ended) = With (Ok ended)

-- one that is begun, unless there is no memory for it
pub data MaySession (ran : Fused DigestDevice × Option PalEnd) (old new : Fused DigestDevice) (end : Ended (Result PalEnd Unbegun)) : Type 0 where
  Runs : new ≡ ran.0 → end ≡ session_end ran.1 → MaySession ran old new end
  HasNoMemory : new ≡ old → end ≡ OutOfMemory → MaySession ran old new end

-- why one is not begun, by whether there is a place for it
abbrev pub unbegun : Bool → List ℕ → Option Unbegun
unbegun roomy inputs =
    if nat_lt longest_outputs (length inputs) then Some HasLongInputs
    else if roomy then None else Some HasNoPlace

-- a session that is not begun changes nothing
abbrev pub SessionEnds : Option Unbegun → Fused DigestDevice × Option PalEnd → Fused DigestDevice → Fused DigestDevice
    → Ended (Result PalEnd Unbegun) → Type 0
SessionEnds (Some why) ran old new end = (new ≡ old) × (end ≡ With (Err why))
SessionEnds None ran old new end = MaySession ran old new end

module _ {D : Type 0} (May : (c : SlotCommand) → D → D → SlotReply c → Type 0) where
  -- a command to the slots takes a step, or the power is lost because there is none
  pub data SlotsEnd (c : SlotCommand) (old new : Machines D) (end : Ended (SlotReply c)) : Type 0 where
    TakesStep : (left : Limit) → spent true old.0.fuse ≡ Some left → new.0 ≡ with_fuse old.0.state left
        → (reply : SlotReply c) → May c old.1 new.1 reply → end ≡ With reply → SlotsEnd c old new end
    HasNoStep : old.0.fuse ≡ Some 0 → new ≡ old → end ≡ WithoutPower → SlotsEnd c old new end

  -- how a part may end, where a session has a place or not, of this image
  abbrev pub PartEnds : Bool → List ℕ → (part : Part) → Machines D → Machines D → Ended (Gives part) → Type 0
  PartEnds roomy image MakeRoom old new end = (new ≡ old) × ((end ≡ With tt) ⊎ (end ≡ OutOfMemory))
  PartEnds roomy image (RunSession inputs) old new end =
      SessionEnds (unbegun roomy inputs) (on_device (quiet_plan image inputs job_nonce) old.0) old.0 new.0 end × (new.1 ≡ old.1)
  PartEnds roomy image (OnSlots c) old new end = SlotsEnd c old new end

  -- what follows a part that ended so: the rest by what it gave, or nothing
  abbrev pub Follows : {X Y : Type 0} → Ended Y → Machines D → Machines D → Ended X → (Y → Type 0) → Type 0
  Follows (With y) between new end rest = rest y
  Follows OutOfMemory between new end rest = (new ≡ between) × (end ≡ OutOfMemory)
  Follows WithoutPower between new end rest = (new ≡ between) × (end ≡ WithoutPower)

  -- parts, one after another, each from where the one before it ended
  abbrev pub MayEnd : {X : Type 0} → Bool → List ℕ → Plan Part Gives X → Machines D → Machines D → Ended X → Type 0
  MayEnd roomy image (Return x) old new end = (new ≡ old) × (end ≡ With x)
  MayEnd roomy image (Ask part next) old new end =
      (first : Ended (Gives part)) × (between : Machines D) × PartEnds roomy image part old between first
      × Follows first between new end (λ given. MayEnd roomy image (next given) between new end)
