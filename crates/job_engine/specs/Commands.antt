-- What is asked of a whole machine: of its device, of the slots of its disk, and of its power.
use Rattle.std.specs.Prelude.{⊤, ℕ, List, Bool, true, false}
use Rattle.flk_base.specs.Plan.{Plan, Return, Ask, Machine}
use Rattle.seal_device.specs.Commands.{Command, PowerOn, Reply, costs}
use Rattle.job_store.specs.Commands.{SlotCommand, SlotReply, slot_act}
use Rattle.job_store.specs.PowerCycle.{after_power_cycle}
use Rattle.job_store.specs.Simulated.{Simulated}

-- a command to the device; a command to the slots of the disk; or that the power goes and comes back, where the first
-- `keep` dirty places of the disk keep what was written, and the others get the bytes of `fill`
pub data AnyCommand : Type 0 where
  ToDevice : Command → AnyCommand
  ToSlots : SlotCommand → AnyCommand
  CyclePower : (keep : ℕ) → (fill : List ℕ) → AnyCommand

-- what is replied
abbrev pub AnyReply : AnyCommand → Type 0
AnyReply (ToDevice c) = Reply c
AnyReply (ToSlots c) = SlotReply c
AnyReply (CyclePower keep fill) = Unit {0}

-- which of them take a step of the fuse
abbrev pub any_costs : AnyCommand → Bool
any_costs (ToDevice c) = costs c
any_costs (ToSlots c) = true
any_costs (CyclePower keep fill) = false

-- the disk in memory after a power cycle
abbrev pub cycled : ℕ → List ℕ → Simulated → Simulated
cycled keep fill disk = record disk { contents = after_power_cycle keep fill disk.contents }

-- a device that carries out its commands so, beside the disk in memory
abbrev pub any_act : {S : Type 0} → Machine Command Reply S → Machine AnyCommand AnyReply (S × Simulated)
any_act m (ToDevice c) s = (((m c s.0).0, s.1), (m c s.0).1)
any_act m (ToSlots c) s = ((s.0, (slot_act c s.1).0), (slot_act c s.1).1)
any_act m (CyclePower keep fill) s = (((m PowerOn s.0).0, cycled keep fill s.1), tt)

-- a plan of the device, as one of the whole machine
abbrev pub to_device : {X : Type 0} → Plan Command Reply X → Plan AnyCommand AnyReply X
to_device (Return x) = Return x
to_device (Ask c next) = Ask (ToDevice c) (λ reply. to_device (next reply))

-- a fact of the device's commands, as one of the whole machine's: power comes back by the device's power-on
abbrev pub OfDevice : {T : Type 0} → (Command → T → Type 0) → AnyCommand → T × Simulated → Type 0
OfDevice Fact (ToDevice c) t = Fact c t.0
OfDevice Fact (ToSlots c) t = ⊤
OfDevice Fact (CyclePower keep fill) t = Fact PowerOn t.0
