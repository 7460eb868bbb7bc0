-- How a session ends, and what register 17 is extended by then.
use Rattle.std.specs.Prelude.{◌≡◌, ℕ, List, [], ◌∷◌, length}
use Rattle.i386_profile.specs.declared.cpu.FaultKind.{FaultKind}
use Rattle.i386_profile.specs.declared.cpu.FaultKind.TheVariants as faults
use Rattle.flk_base.specs.Plan.{Plan, Return, Ask}
use Rattle.tpm_state.specs.Sessions as sessions
use Rattle.seal_device.specs.Commands.{Command, Extend, Reply, launch_register}
use Rattle.late_launch.specs.declared.ends.End.{End}
use Rattle.late_launch.specs.declared.ends.End.TheVariants.{Done, Fault, Budget, Refused}
use Rattle.late_launch.specs.declared.ends.JobRefusal.{JobRefusal}
use Rattle.late_launch.specs.declared.ends.JobRefusal.TheVariants.{Input, NotOpen, NoCounterLeft, CounterEnd, Unprovisioned, SerialEnd}

-- the number of a fault
abbrev pub fault_number : FaultKind → ℕ
fault_number faults.Instruction = 1
fault_number faults.Segment = 2
fault_number faults.Divide = 3

-- the number of a refusal
abbrev pub refusal_number : JobRefusal → ℕ
refusal_number Input = 5
refusal_number NotOpen = 6
refusal_number NoCounterLeft = 7
refusal_number CounterEnd = 8
refusal_number Unprovisioned = 9
refusal_number SerialEnd = 10

-- the byte for an end
abbrev pub end_byte : End → ℕ
end_byte (Done n) = 0
end_byte (Fault kind) = fault_number kind
end_byte Budget = 4
end_byte (Refused why) = refusal_number why

-- an end that says how many bytes the outputs are says it of these
abbrev pub IsEndOf : End → List ℕ → Type 0
IsEndOf (Done n) outputs = n ≡ length outputs
IsEndOf other outputs = Unit {0}

-- the texts by which register 17 is extended at the end of a session
abbrev pub closing : List ℕ → List ℕ → End → List ℕ → List (List ℕ)
closing inputs outputs end nonce = sessions.closing inputs outputs (end_byte end) nonce

-- the plan that extends register 17 by each of these texts, in their order
abbrev pub extend_each : List (List ℕ) → Plan Command Reply (Unit {0})
extend_each [] = Return tt
extend_each (text ∷ texts) = Ask (Extend launch_register text) (λ reply. extend_each texts)
