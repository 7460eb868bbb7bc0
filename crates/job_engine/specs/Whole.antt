-- A call in parts on a device and the disk in memory, as one plan over commands to both.
use Rattle.std.specs.Prelude.{◌≡◌, ℕ, List, Bool, Option, Some, None, Result, Ok, Err}
use Rattle.flk_base.specs.Plan.{Plan, Return, ask, ◌>>=◌}
use Rattle.flk_base.specs.Stop.{Limit, limited, Fused, with_fuse, fused, Ends}
use Rattle.flk_base.specs.Parts.{expanded, each_part}
use Rattle.seal_device.specs.Commands.{act}
use Rattle.seal_device.specs.Digests.{DigestDevice, digests}
use Rattle.slb_core.specs.Pal.{PalEnd}
use Rattle.session_driver.specs.Quiet.{quiet_plan}
use Rattle.job_store.specs.Commands.{SlotCommand, SlotReply, MayReply, slot_act}
use Rattle.job_store.specs.Simulated.{Simulated, next}
use Rattle.job_engine.specs.Calls.{Part, MakeRoom, RunSession, OnSlots, Gives, Unbegun}
use Rattle.job_engine.specs.Commands.{AnyCommand, ToSlots, AnyReply, any_costs, any_act, to_device}
use Rattle.job_engine.specs.Runs.{Ended, With, OutOfMemory, WithoutPower, Machines, job_nonce, unbegun}

-- ---- what the disk in memory may do

-- it leaves and replies what it does, and nothing else
abbrev pub SimulatedMay : (c : SlotCommand) → Simulated → Simulated → SlotReply c → Type 0
SimulatedMay c old new reply = (new, reply) ≡ slot_act c old

-- the same in the words of calls over any disk: by its contents, its count of faults, and all that it makes known
abbrev pub KnownMay : (c : SlotCommand) → Simulated → Simulated → SlotReply c → Type 0
KnownMay = MayReply (λ d. d.contents) (λ d. d.faults) (λ old call done new. (new, done) ≡ next call old)

-- ---- a device and the disk in memory, as one machine

-- the two of them, with the device's fuse
abbrev pub both : Machines Simulated → Fused (DigestDevice × Simulated)
both machines = with_fuse (machines.0.state, machines.1) machines.0.fuse

-- a plan on both: what stands after it, and its value unless power was lost
abbrev pub on_both : {X : Type 0} → Plan AnyCommand AnyReply X → Fused (DigestDevice × Simulated) → Fused (DigestDevice × Simulated) × Option X
on_both plan before = fused any_costs (any_act (act digests)) plan before

-- ---- parts as one plan

-- a session of an image on these inputs, unless there is a reason not to begin it
abbrev pub session_or_not : (image inputs : List ℕ) → Option Unbegun → Plan AnyCommand AnyReply (Result PalEnd Unbegun)
session_or_not image inputs (Some why) = Return (Err why)
session_or_not image inputs None = to_device (quiet_plan image inputs job_nonce) >>= λ ended. Return (Ok ended)

-- what a part asks, where a session has a place or not, of this image; for room in the list of jobs nothing is asked
abbrev pub own_plan : Bool → List ℕ → (part : Part) → Plan AnyCommand AnyReply (Gives part)
own_plan roomy image MakeRoom = Return tt
own_plan roomy image (RunSession inputs) = session_or_not image inputs (unbegun roomy inputs)
own_plan roomy image (OnSlots c) = ask (ToSlots c)

-- what all parts ask
abbrev pub whole_plan : {X : Type 0} → Bool → List ℕ → Plan Part Gives X → Plan AnyCommand AnyReply X
whole_plan roomy image parts = expanded (own_plan roomy image) parts

-- ---- how parts end

-- the value, if they ended with one
abbrev pub value_in : {X : Type 0} → Ended X → Option X
value_in (With x) = Some x
value_in OutOfMemory = None
value_in WithoutPower = None

-- how they ended, by what a plan of them gave that memory and power may have cut
abbrev pub end_by : {X : Type 0} → Option (Limit × Option X) → Ended X
end_by None = WithoutPower
end_by (Some (left, None)) = OutOfMemory
end_by (Some (left, Some x)) = With x

-- they end as one plan with the fuse, where memory lasts for some number of whole parts
abbrev pub EndsWhole : {X : Type 0} → Bool → List ℕ → Plan Part Gives X → Machines Simulated → Machines Simulated → Ended X → Type 0
EndsWhole roomy image parts old new end =
    (memory : Limit) × Ends end_by (on_both (whole_plan roomy image (limited each_part parts memory)) (both old)) (both new) end
