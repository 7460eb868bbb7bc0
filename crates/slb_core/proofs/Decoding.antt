-- What `decode` answers is what the bytes begin with.
use Rattle.std.proofs.Common.{◌≡◌, ◌<◌, ℕ, List, length, drop, refl, Option, Some, None}
use Rattle.i386_profile.specs.declared.ins.Ins.{Ins}
use Rattle.i386_profile.specs.Reading.{instruction_at}
use Rattle.i386_profile.specs.Spelling.{Begins, NoneBegins}
use Rattle.i386_profile.specs.Effects.{State, Outcome, GoesOn, CallsGate, Faults, does, Answers}
use Rattle.i386_profile.specs.declared.cpu.Step.{Step}
use Rattle.std.proofs.lemmas.Bool.{lt-ltb}
use Rattle.i386_profile.proofs.Fields.{IsBytes}
use Rattle.i386_profile.proofs.Decoded.{is_found, is_only, is_none}
use Rattle.i386_profile.specs.declared.cpu.Step.TheVariants as steps
use Rattle.i386_profile.specs.declared.cpu.FaultKind.TheVariants.{Instruction}
use Rattle.slb_core.specs.Turns.{decoded, passed, executed, Reaches}

-- an instruction that the bytes begin with
pub decoded_some : (bytes : List ℕ) (ins : Ins) (n : ℕ) → Begins ins n bytes → decoded bytes ≡ Some (ins, n)
decoded_some bytes ins n begins = by_reading (instruction_at bytes) refl
  where
    by_reading : (read : Option (Ins × List ℕ)) → instruction_at bytes ≡ read → decoded bytes ≡ Some (ins, n)
    by_reading None e = absurd (is_none bytes e ins n begins)
    by_reading (Some (other, rest)) e =
        let same = is_only bytes rest other ins n e begins in
        rw (e, same.0, same.1) refl

-- no instruction
pub decoded_none : (bytes : List ℕ) → IsBytes bytes → NoneBegins bytes → decoded bytes ≡ None
decoded_none bytes fits none = by_reading (instruction_at bytes) refl
  where
    by_reading : (read : Option (Ins × List ℕ)) → instruction_at bytes ≡ read → decoded bytes ≡ None
    by_reading None e = rw e refl
    by_reading (Some (ins, rest)) e = absurd (none ins _ (is_found bytes rest ins fits e).begins)

-- what an instruction does is what it reaches
pub reaches : (outcome : Outcome) (step : Step) (old new : State) → Answers outcome step old new → Reaches outcome step new
reaches (GoesOn made) step old new h = h
reaches (CallsGate n made) step old new h = h
reaches (Faults kind) step old new h = h.0

-- the instruction at eip, inside the segment
pub within_executed : (s : State) (ins : Ins) (n : ℕ) (step : Step) (new : State) → s.cpu.eip < length s.bytes → decoded (drop s.cpu.eip s.bytes) ≡ Some (ins, n)
    → Reaches (does ins (passed s n)) step new → Reaches (executed s) step new
within_executed s ins n step new within some reached = rw (lt-ltb s.cpu.eip (length s.bytes) within, some) reached

-- no instruction there
pub faults_executed : (s : State) (new : State) → s.cpu.eip < length s.bytes → decoded (drop s.cpu.eip s.bytes) ≡ None → Reaches (executed s) (steps.Fault Instruction) new
faults_executed s new within none = rw (lt-ltb s.cpu.eip (length s.bytes) within, none) refl
