-- A spelling has 1 to 11 bytes.
use Rattle.std.proofs.Common.{◌≡◌, ℕ, ◌+◌, ◌≤◌, List, ◌++◌, length, Option, Some, None, refl, ap, ◌∙◌, arith, inl, inr}
use Rattle.std.proofs.lemmas.List.{length-append}
use Rattle.std.specs.Int.{w32, to_le_bytes}
use Rattle.i386_profile.specs.declared.operands.Reg.{Reg}
use Rattle.i386_profile.specs.declared.operands.Reg.TheVariants.{Eax, Ecx, Edx, Ebx, Esp, Ebp, Esi, Edi}
use Rattle.i386_profile.specs.declared.operands.Rm.{Rm}
use Rattle.i386_profile.specs.declared.operands.Rm.TheVariants as rms
use Rattle.i386_profile.specs.declared.ins.Ins.{Ins}
use Rattle.i386_profile.specs.declared.ins.Ins.TheVariants.{Load, Put, MovTo, MovFrom, ByteTo, ByteFrom, Widen, WidenReg, Lea, Alu, AluFrom, AluImm, Test, Inc, Dec, Push, Pop, PushImm, Shift, Imul, Unary, Jmp, Jcc, Call, Ret, Gate, Nop}
use Rattle.i386_profile.specs.Codes.{whole_of, reg_code}
use Rattle.i386_profile.specs.Spelling.{IsDoubleword, IsByte, IsSignedByte, modrm_base, SpellsMemory, SpellsRm, one_byte, two_byte, HasImmediate, HasOperand, HasOperandImmediate, HasExchanged, Spells}
use Rattle.i386_profile.specs.Spelling.{IsDisplacement}

abbrev pub IsBounded : List ℕ → Type 0
IsBounded a = (1 ≤ length a) × (length a ≤ 11)

-- a number of at most four bytes
abbrev IsShort : (ℕ → List ℕ → Type 0) → Type 0
IsShort Is = (n : ℕ) (i : List ℕ) → Is n i → length i ≤ 4

doubleword_short : IsShort IsDoubleword
doubleword_short n i is = let four : length (to_le_bytes w32 n) ≡ 4 =
    refl in omega (arith, ap length is.1)

byte_short : IsShort IsByte
byte_short n i is = omega (arith, ap length is.1)

signed_short : IsShort IsSignedByte
signed_short n i (b, lt, value, text) = omega (arith, ap length text)

based_length : (mode reg : ℕ) (base : Reg)
    → (1 ≤ length (modrm_base mode reg base)) × (length (modrm_base mode reg base) ≤ 2)
based_length mode reg Eax = (omega arith, omega arith)
based_length mode reg Ecx = (omega arith, omega arith)
based_length mode reg Edx = (omega arith, omega arith)
based_length mode reg Ebx = (omega arith, omega arith)
based_length mode reg Esp = (omega arith, omega arith)
based_length mode reg Ebp = (omega arith, omega arith)
based_length mode reg Esi = (omega arith, omega arith)
based_length mode reg Edi = (omega arith, omega arith)

displacement_length : (mode : ℕ) (base : Reg) (disp : ℕ) (d : List ℕ)
    → IsDisplacement mode base disp d → length d ≤ 4
displacement_length mode base disp d (inl (m, other, none, nil)) = omega (arith, ap length nil)
displacement_length mode base disp d (inr (inl (m, is))) = signed_short disp d is
displacement_length mode base disp d (inr (inr (m, is))) = doubleword_short disp d is

memory_length : (reg : ℕ) (base : Option Reg) (disp : ℕ) (o : List ℕ) → SpellsMemory reg base disp o
    → (1 ≤ length o) × (length o ≤ 6)
memory_length reg None disp o (d, is, e) = let l =
    doubleword_short disp d is in (omega (arith, ap length e), omega (arith, ap length e))
memory_length reg (Some base) disp o (mode, d, is, e) =
    let l = ap length e ∙ length-append (modrm_base mode reg base) d in
    let head = based_length mode reg base in
    let tail = displacement_length mode base disp d is in
    (omega arith, omega arith)

rm_length : (reg : ℕ) (rm : Rm) (o : List ℕ) → SpellsRm reg rm o → (1 ≤ length o) × (length o ≤ 6)
rm_length reg (rms.Reg r) o e = (omega (arith, ap length e), omega (arith, ap length e))
rm_length reg (rms.Mem m) o spelled = memory_length reg m.base m.disp o spelled

-- an opcode of one byte or two
abbrev IsOpcode : List ℕ → Type 0
IsOpcode opcode = (1 ≤ length opcode) × (length opcode ≤ 2)

one : (opcode : ℕ) → IsOpcode (one_byte opcode)
one opcode = (omega arith, omega arith)

two : (opcode : ℕ) → IsOpcode (two_byte opcode)
two opcode = (omega arith, omega arith)

alone_bounded : (opcode : ℕ) (a : List ℕ) → a ≡ one_byte opcode → IsBounded a
alone_bounded opcode a e = (omega (arith, ap length e), omega (arith, ap length e))

immediate_bounded : (Is : ℕ → List ℕ → Type 0) (opcode : List ℕ) (n : ℕ) (a : List ℕ) → IsShort Is
    → IsOpcode opcode → HasImmediate Is opcode n a → IsBounded a
immediate_bounded Is opcode n a short head (i, is, e) =
    let l = ap length e ∙ length-append opcode i in
    let tail = short n i is in
    (omega arith, omega arith)

slash_bounded : (opcode : List ℕ) (reg : ℕ) (rm : Rm) (a : List ℕ) → IsOpcode opcode
    → HasOperand opcode reg rm a → IsBounded a
slash_bounded opcode reg rm a head (o, so, e) =
    let l = ap length e ∙ length-append opcode o in
    let tail = rm_length reg rm o so in
    (omega arith, omega arith)

one_immediate : (Is : ℕ → List ℕ → Type 0) (opcode n : ℕ) (a : List ℕ) → IsShort Is
    → HasImmediate Is (one_byte opcode) n a → IsBounded a
one_immediate Is opcode n a short h =
    immediate_bounded Is (one_byte opcode) n a short (one opcode) h

two_immediate : (Is : ℕ → List ℕ → Type 0) (opcode n : ℕ) (a : List ℕ) → IsShort Is
    → HasImmediate Is (two_byte opcode) n a → IsBounded a
two_immediate Is opcode n a short h =
    immediate_bounded Is (two_byte opcode) n a short (two opcode) h

one_slash : (opcode reg : ℕ) (rm : Rm) (a : List ℕ)
    → HasOperand (one_byte opcode) reg rm a → IsBounded a
one_slash opcode reg rm a h = slash_bounded (one_byte opcode) reg rm a (one opcode) h

two_slash : (opcode reg : ℕ) (rm : Rm) (a : List ℕ)
    → HasOperand (two_byte opcode) reg rm a → IsBounded a
two_slash opcode reg rm a h = slash_bounded (two_byte opcode) reg rm a (two opcode) h

one_slash_immediate : (Is : ℕ → List ℕ → Type 0) (opcode reg : ℕ) (rm : Rm) (n : ℕ) (a : List ℕ)
    → IsShort Is → HasOperandImmediate Is (one_byte opcode) reg rm n a → IsBounded a
one_slash_immediate Is opcode reg rm n a short (o, i, so, is, e) =
    let l = ap length e ∙ length-append (one_byte opcode ++ o) i in
    let m : length (one_byte opcode ++ o) ≡ 1 + length o = length-append (one_byte opcode) o in
    let middle = rm_length reg rm o so in
    let tail = short n i is in
    (omega arith, omega arith)

exchanged_bounded : (opcode : ℕ) (rm : Rm) (r : Reg) (a : List ℕ)
    → HasExchanged (one_byte opcode) rm r a → IsBounded a
exchanged_bounded opcode (rms.Reg s) r a h = one_slash opcode (reg_code s) (rms.Reg r) a h
exchanged_bounded opcode (rms.Mem m) r a none = absurd none

pub bounded : (ins : Ins) (a : List ℕ) → Spells ins a → IsBounded a
bounded (Load r n) a (inl h) = one_immediate IsDoubleword _ n a doubleword_short h
bounded (Load r n) a (inr h) =
    one_slash_immediate IsDoubleword _ 0 (rms.Reg r) n a doubleword_short h
bounded (Put m n) a h = one_slash_immediate IsDoubleword _ 0 (rms.Mem m) n a doubleword_short h
bounded (MovTo rm r) a (inl h) = one_slash _ _ rm a h
bounded (MovTo rm r) a (inr h) = exchanged_bounded _ rm r a h
bounded (MovFrom r m) a h = one_slash _ _ (rms.Mem m) a h
bounded (ByteTo m b) a h = one_slash _ _ (rms.Mem m) a h
bounded (ByteFrom b m) a h = one_slash _ _ (rms.Mem m) a h
bounded (Widen r m) a h = two_slash _ _ (rms.Mem m) a h
bounded (WidenReg r b) a h = two_slash _ _ (rms.Reg (whole_of b)) a h
bounded (Lea r m) a h = one_slash _ _ (rms.Mem m) a h
bounded (Alu op rm r) a (inl h) = one_slash _ _ rm a h
bounded (Alu op rm r) a (inr h) = exchanged_bounded _ rm r a h
bounded (AluFrom op r m) a h = one_slash _ _ (rms.Mem m) a h
bounded (AluImm op rm n) a (inl h) = one_slash_immediate IsSignedByte _ _ rm n a signed_short h
bounded (AluImm op rm n) a (inr h) = one_slash_immediate IsDoubleword _ _ rm n a doubleword_short h
bounded (Test rm r) a h = one_slash _ _ rm a h
bounded (Inc r) a h = alone_bounded _ a h
bounded (Dec r) a h = alone_bounded _ a h
bounded (Push r) a h = alone_bounded _ a h
bounded (Pop r) a h = alone_bounded _ a h
bounded (PushImm n) a h = one_immediate IsDoubleword _ n a doubleword_short h
bounded (Shift op rm count) a h = one_slash_immediate IsByte _ _ rm count a byte_short h
bounded (Imul r rm) a h = two_slash _ _ rm a h
bounded (Unary op rm) a h = one_slash _ _ rm a h
bounded (Jmp rel) a (inl h) = one_immediate IsDoubleword _ rel a doubleword_short h
bounded (Jmp rel) a (inr h) = one_immediate IsSignedByte _ rel a signed_short h
bounded (Jcc c rel) a (inl h) = two_immediate IsDoubleword _ rel a doubleword_short h
bounded (Jcc c rel) a (inr h) = one_immediate IsSignedByte _ rel a signed_short h
bounded (Call rel) a h = one_immediate IsDoubleword _ rel a doubleword_short h
bounded Ret a h = alone_bounded _ a h
bounded (Gate n) a h = one_immediate IsByte _ n a byte_short h
bounded Nop a h = alone_bounded _ a h
