-- What bytes spell has its numbers in range.
use Rattle.std.proofs.Common.{ℕ, ◌^◌, ◌<◌, List, Option, Some, None, arith, inl, inr}
use Rattle.std.proofs.lemmas.Bool.Decides.{nat_tests}
use Rattle.i386_profile.specs.declared.operands.Reg.{Reg}
use Rattle.i386_profile.specs.declared.operands.Rm.{Rm}
use Rattle.i386_profile.specs.declared.operands.Rm.TheVariants as rms
use Rattle.i386_profile.specs.declared.ins.Ins.{Ins}
use Rattle.i386_profile.specs.declared.ins.Ins.TheVariants.{Load, Put, MovTo, MovFrom, ByteTo, ByteFrom, Widen, WidenReg, Lea, Alu, AluFrom, AluImm, Test, Inc, Dec, Push, Pop, PushImm, Shift, Imul, Unary, Jmp, Jcc, Call, Ret, Gate, Nop}
use Rattle.i386_profile.specs.Spelling.{IsSignedByte, sign_extended, IsDisplacement, SpellsMemory, SpellsRm, one_byte, HasExchanged, Spells}
use Rattle.i386_profile.specs.Codes.{alu_from_opcode}
use Rattle.i386_profile.specs.Laws.{IsRmInRange, IsInRange}

extended : (byte : ℕ) → byte < 256 → sign_extended byte < 2 ^ 32
extended byte lt = grind (arith, nat_tests)

signed : (n : ℕ) (i : List ℕ) → IsSignedByte n i → n < 2 ^ 32
signed n i (byte, lt, value, text) = omega (arith, extended byte lt, value)

displacement : (mode : ℕ) (base : Reg) (disp : ℕ) (d : List ℕ) → IsDisplacement mode base disp d
    → disp < 2 ^ 32
displacement mode base disp d (inl (m, other, none, nil)) = omega (arith, none)
displacement mode base disp d (inr (inl (m, is))) = signed disp d is
displacement mode base disp d (inr (inr (m, is))) = is.0

memory : (reg : ℕ) (base : Option Reg) (disp : ℕ) (o : List ℕ) → SpellsMemory reg base disp o
    → disp < 2 ^ 32
memory reg None disp o (d, is, e) = is.0
memory reg (Some base) disp o (mode, d, is, e) = displacement mode base disp d is

operand : (reg : ℕ) (rm : Rm) (o : List ℕ) → SpellsRm reg rm o → IsRmInRange rm
operand reg (rms.Reg r) o h = tt
operand reg (rms.Mem m) o h = memory reg m.base m.disp o h

exchanged : (opcode : List ℕ) (rm : Rm) (r : Reg) (a : List ℕ) → HasExchanged opcode rm r a
    → IsRmInRange rm
exchanged opcode (rms.Reg s) r a h = tt
exchanged opcode (rms.Mem m) r a h = absurd h

pub spelled_in_range : (ins : Ins) (a : List ℕ) → Spells ins a → IsInRange ins
spelled_in_range (Load r n) a (inl (i, is, e)) = is.0
spelled_in_range (Load r n) a (inr (o, i, so, is, e)) = is.0
spelled_in_range (Put m n) a (o, i, so, is, e) = (operand _ (rms.Mem m) o so, is.0)
spelled_in_range (MovTo rm r) a (inl (o, so, e)) = operand _ rm o so
spelled_in_range (MovTo rm r) a (inr h) = exchanged (one_byte 0x8B) rm r a h
spelled_in_range (MovFrom r m) a (o, so, e) = operand _ (rms.Mem m) o so
spelled_in_range (ByteTo m b) a (o, so, e) = operand _ (rms.Mem m) o so
spelled_in_range (ByteFrom b m) a (o, so, e) = operand _ (rms.Mem m) o so
spelled_in_range (Widen r m) a (o, so, e) = operand _ (rms.Mem m) o so
spelled_in_range (WidenReg r b) a h = tt
spelled_in_range (Lea r m) a (o, so, e) = operand _ (rms.Mem m) o so
spelled_in_range (Alu op rm r) a (inl (o, so, e)) = operand _ rm o so
spelled_in_range (Alu op rm r) a (inr h) = exchanged (one_byte (alu_from_opcode op)) rm r a h
spelled_in_range (AluFrom op r m) a (o, so, e) = operand _ (rms.Mem m) o so
spelled_in_range (AluImm op rm n) a (inl (o, i, so, is, e)) = (operand _ rm o so, signed n i is)
spelled_in_range (AluImm op rm n) a (inr (o, i, so, is, e)) = (operand _ rm o so, is.0)
spelled_in_range (Test rm r) a (o, so, e) = operand _ rm o so
spelled_in_range (Inc r) a h = tt
spelled_in_range (Dec r) a h = tt
spelled_in_range (Push r) a h = tt
spelled_in_range (Pop r) a h = tt
spelled_in_range (PushImm n) a (i, is, e) = is.0
spelled_in_range (Shift op rm n) a (o, i, so, is, e) = (operand _ rm o so, is.0)
spelled_in_range (Imul r rm) a (o, so, e) = operand _ rm o so
spelled_in_range (Unary op rm) a (o, so, e) = operand _ rm o so
spelled_in_range (Jmp rel) a (inl (i, is, e)) = is.0
spelled_in_range (Jmp rel) a (inr (i, is, e)) = signed rel i is
spelled_in_range (Jcc c rel) a (inl (i, is, e)) = is.0
spelled_in_range (Jcc c rel) a (inr (i, is, e)) = signed rel i is
spelled_in_range (Call rel) a (i, is, e) = is.0
spelled_in_range Ret a h = tt
spelled_in_range (Gate n) a (i, is, e) = is.0
spelled_in_range Nop a h = tt
