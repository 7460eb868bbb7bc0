-- The instruction at eip, and what it leads to (i386 manuals, "Instruction Set").
use Rattle.std.specs.Prelude.{◌≡◌, ℕ, ◌+◌, ◌-◌, nat_lt, List, length, drop, Option, Some, None, if◌then◌else◌}
use Rattle.std.specs.Option.{option_map}
use Rattle.i386_profile.specs.declared.ins.Ins.{Ins}
use Rattle.i386_profile.specs.declared.cpu.Step.{Step}
use Rattle.i386_profile.specs.declared.cpu.Step.TheVariants as steps
use Rattle.i386_profile.specs.declared.cpu.FaultKind.TheVariants.{Instruction, Segment}
use Rattle.i386_profile.specs.Reading.{instruction_at}
use Rattle.i386_profile.specs.Effects.{State, Outcome, GoesOn, CallsGate, Faults, does}

-- the instruction that bytes begin with, and how many of them spell it
abbrev pub decoded : List ℕ → Option (Ins × ℕ)
decoded bytes = option_map (λ read. (read.0, length bytes - length read.1)) (instruction_at bytes)

-- the state in which eip has passed so many bytes
abbrev pub passed : State → ℕ → State
passed s count = record s { cpu = record s.cpu { eip = s.cpu.eip + count } }

-- what an instruction leads to that so many bytes at eip spell; where there is none, it is a fault
abbrev pub carried_out : State → Option (Ins × ℕ) → Outcome
carried_out s None = Faults Instruction
carried_out s (Some (ins, count)) = does ins (passed s count)

-- what the instruction at eip leads to; where eip lies outside the segment, it is a fault
abbrev pub executed : State → Outcome
executed s =
    if nat_lt s.cpu.eip (length s.bytes)
    then carried_out s (decoded (drop s.cpu.eip s.bytes))
    else Faults Segment

-- an outcome as a step, and the state after it; what a fault leaves is of no interest
abbrev pub Reaches : Outcome → Step → State → Type 0
Reaches (GoesOn made) step new = (step ≡ steps.Next) × (new ≡ made)
Reaches (CallsGate n made) step new = (step ≡ steps.Gate n) × (new ≡ made)
Reaches (Faults kind) step new = step ≡ steps.Fault kind
