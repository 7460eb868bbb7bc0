-- How clauses see what the code holds, and what its calls answer.
use Rattle.std.specs.Prelude.{◌≡◌, ℕ, ◌^◌, min, Result, Err, IsOk, ℤ, pos, negsuc, ◌-◌}
use Rattle.pal_asm.specs.declared.fault.AsmFault.{AsmFault}
use Rattle.pal_asm.specs.declared.fault.AsmError.{AsmError}
use Rattle.pal_asm.specs.declared.fault.AsmError.TheVariants.{At, NoMemory}
use Rattle.pal_asm.specs.declared.fault.AsmKind.{AsmKind}
use Rattle.pal_asm.specs.declared.fault.LineFault.{LineFault}
use Rattle.pal_asm.specs.declared.fault.LineFault.TheVariants as line
use Rattle.pal_asm.specs.declared.operand.Place.{Place}
use Rattle.pal_asm.specs.declared.operand.Operand.{Operand}
use Rattle.pal_asm.specs.declared.operand.Operand.TheVariants.{Register, ByteRegister, Number, Label, Memory, Dword, Byte}

-- what the error says of an answer, as of the code or the first fault of a text: out of memory says
-- nothing
abbrev pub Refuses : {A : Type 0} → AsmError → Result A AsmFault → Type 0
Refuses (At fault) answer = answer ≡ Err fault
Refuses NoMemory answer = Unit {0}

-- the same of a line
abbrev pub RefusesLine : {A : Type 0} → LineFault → Result A AsmKind → Type 0
RefusesLine (line.Kind kind) answer = answer ≡ Err kind
RefusesLine line.NoMemory answer = Unit {0}

-- the same of what a line says by itself: out of memory comes only where that has no fault
abbrev pub RefusesAlone : {A : Type 0} → LineFault → Result A AsmKind → Type 0
RefusesAlone (line.Kind kind) answer = answer ≡ Err kind
RefusesAlone line.NoMemory answer = IsOk answer

-- a number as the code reads it: all that is larger counts as 2 ^ 33
abbrev pub read_as : ℕ → ℕ
read_as n = min n (2 ^ 33)

abbrev pub signed_as : ℤ → ℤ
signed_as (pos n) = pos (read_as n)
signed_as (negsuc n) = negsuc (min n (2 ^ 33 - 1))

-- a place and an operand with such numbers
abbrev pub place_as : Place → Place
place_as place = record { base = place.base; displacement = signed_as place.displacement }

abbrev pub operand_as : Operand → Operand
operand_as (Number z) = Number (signed_as z)
operand_as (Memory place) = Memory (place_as place)
operand_as (Dword place) = Dword (place_as place)
operand_as (Byte place) = Byte (place_as place)
operand_as (Register r) = Register r
operand_as (ByteRegister b) = ByteRegister b
operand_as (Label name) = Label name
