-- What is spelled is read, whatever follows.
use Rattle.std.proofs.Common.{◌≡◌, ℕ, ◌+◌, ◌<◌, List, ◌∷◌, ◌++◌, Some, refl, append_assoc, arith, inl, inr}
use Rattle.i386_profile.specs.declared.operands.Reg.{Reg}
use Rattle.i386_profile.specs.declared.operands.Reg.TheVariants.{Eax}
use Rattle.i386_profile.specs.declared.operands.ByteReg.{ByteReg}
use Rattle.i386_profile.specs.declared.operands.ByteReg.TheVariants.{Al}
use Rattle.i386_profile.specs.declared.operands.Rm.TheVariants as rms
use Rattle.i386_profile.specs.declared.ins.AluOp.{AluOp}
use Rattle.i386_profile.specs.declared.ins.AluOp.TheVariants.{Add, Or, And, Sub, Xor, Cmp}
use Rattle.i386_profile.specs.declared.ins.ShiftOp.{ShiftOp}
use Rattle.i386_profile.specs.declared.ins.ShiftOp.TheVariants.{Shl, Shr, Sar}
use Rattle.i386_profile.specs.declared.ins.UnaryOp.{UnaryOp}
use Rattle.i386_profile.specs.declared.ins.UnaryOp.TheVariants.{Not, Neg, Mul, Div}
use Rattle.i386_profile.specs.declared.ins.Cond.{Cond}
use Rattle.i386_profile.specs.declared.ins.Cond.TheVariants.{O}
use Rattle.i386_profile.specs.declared.ins.Ins.{Ins}
use Rattle.i386_profile.specs.declared.ins.Ins.TheVariants.{Load, Put, MovTo, MovFrom, ByteTo, ByteFrom, Widen, WidenReg, Lea, Alu, AluFrom, AluImm, Test, Inc, Dec, Push, Pop, PushImm, Shift, Imul, Unary, Jmp, Jcc, Call, Ret, Gate, Nop}
use Rattle.i386_profile.specs.Codes.{whole_of, reg_code, alu_code, alu_opcode, alu_from_opcode, shift_code, unary_code, cond_code}
use Rattle.i386_profile.specs.Spelling.{Spells}
use Rattle.i386_profile.specs.Reading.{◌>>=◌, reg_of, byte_reg_of, alu_of, shift_of, unary_of, doubleword_at, signed_byte_at, operands_at, alu_from, alu_at, register_at, immediate_at, short_jcc_at, jcc_at, alu_imm_at, mov_at, shift_at, put_at, gate_at, short_jmp_at, unary_at, imul_at, widen_at, two_byte_at, low_at, middle_at, high_at, instruction_at}
use Rattle.i386_profile.proofs.Fields.{byte_again, doubleword_again, signed_again, reg_again, reg_below}
use Rattle.i386_profile.proofs.ModRm.{operands_again}

-- ---- opcodes that have a register, an operation or a condition in them

load_again : (r : Reg) (x : List ℕ)
    → instruction_at ((0xB8 + reg_code r) ∷ x) ≡ (doubleword_at x >>= λ n. Some (Load r n.0, n.1))
unfolding instruction_at middle_at immediate_at
load_again Eax x = refl
load_again _ x = refl

inc_again : (r : Reg) (x : List ℕ) → instruction_at ((0x40 + reg_code r) ∷ x) ≡ Some (Inc r, x)
unfolding instruction_at low_at register_at
inc_again Eax x = refl
inc_again _ x = refl

dec_again : (r : Reg) (x : List ℕ) → instruction_at ((0x48 + reg_code r) ∷ x) ≡ Some (Dec r, x)
unfolding instruction_at low_at register_at
dec_again Eax x = refl
dec_again _ x = refl

push_again : (r : Reg) (x : List ℕ) → instruction_at ((0x50 + reg_code r) ∷ x) ≡ Some (Push r, x)
unfolding instruction_at low_at register_at
push_again Eax x = refl
push_again _ x = refl

pop_again : (r : Reg) (x : List ℕ) → instruction_at ((0x58 + reg_code r) ∷ x) ≡ Some (Pop r, x)
unfolding instruction_at low_at register_at
pop_again Eax x = refl
pop_again _ x = refl

alu_again : (op : AluOp) (x : List ℕ)
    → instruction_at (alu_opcode op ∷ x) ≡ (operands_at x >>= λ o. Some
    (Alu op o.0.rm (reg_of o.0.reg), o.1))
unfolding instruction_at low_at alu_at
alu_again Add x = refl
alu_again _ x = refl

alu_from_again : (op : AluOp) (x : List ℕ)
    → instruction_at (alu_from_opcode op ∷ x)
    ≡ (operands_at x >>= λ o. Some (alu_from op (reg_of o.0.reg) o.0.rm, o.1))
unfolding instruction_at low_at alu_at
alu_from_again Add x = refl
alu_from_again _ x = refl

jcc_again : (c : Cond) (x : List ℕ)
    → instruction_at (0x0F ∷ (0x80 + cond_code c) ∷ x)
    ≡ (doubleword_at x >>= λ rel. Some (Jcc c rel.0, rel.1))
unfolding instruction_at low_at two_byte_at jcc_at
jcc_again O x = refl
jcc_again _ x = refl

short_jcc_again : (c : Cond) (x : List ℕ)
    → instruction_at ((0x70 + cond_code c) ∷ x)
    ≡ (signed_byte_at x >>= λ rel. Some (Jcc c rel.0, rel.1))
unfolding instruction_at low_at short_jcc_at
short_jcc_again O x = refl
short_jcc_again _ x = refl

alu_code_again : (op : AluOp) → (alu_of (alu_code op) ≡ Some op) × (alu_code op < 8)
alu_code_again Add = (refl, omega arith)
alu_code_again Or = (refl, omega arith)
alu_code_again And = (refl, omega arith)
alu_code_again Sub = (refl, omega arith)
alu_code_again Xor = (refl, omega arith)
alu_code_again Cmp = (refl, omega arith)

shift_code_again : (op : ShiftOp) → (shift_of (shift_code op) ≡ Some op) × (shift_code op < 8)
shift_code_again Shl = (refl, omega arith)
shift_code_again Shr = (refl, omega arith)
shift_code_again Sar = (refl, omega arith)

unary_code_again : (op : UnaryOp) → (unary_of (unary_code op) ≡ Some op) × (unary_code op < 8)
unary_code_again Not = (refl, omega arith)
unary_code_again Neg = (refl, omega arith)
unary_code_again Mul = (refl, omega arith)
unary_code_again Div = (refl, omega arith)

byte_reg_again : (b : ByteReg) → byte_reg_of (reg_code (whole_of b)) ≡ Some b
byte_reg_again Al = refl
byte_reg_again _ = refl

-- ---- the table

pub again : (ins : Ins) (a x : List ℕ) → Spells ins a → instruction_at (a ++ x) ≡ Some (ins, x)
unfolding instruction_at low_at middle_at high_at two_byte_at immediate_at alu_imm_at mov_at
    shift_at put_at gate_at short_jmp_at unary_at imul_at widen_at
again (Load r n) a x (inl (i, is, e)) =
    rw (e, load_again r (i ++ x), doubleword_again n i x is) refl
again (Load r n) a x (inr (o, i, so, is, e)) =
    rw (
      e,
      append_assoc o i x,
      operands_again 0 (rms.Reg r) o (i ++ x) (omega arith) so,
      doubleword_again n i x is,
    ) refl
again (Put m n) a x (o, i, so, is, e) =
    rw (
      e,
      append_assoc o i x,
      operands_again 0 (rms.Mem m) o (i ++ x) (omega arith) so,
      doubleword_again n i x is,
    ) refl
again (MovTo rm r) a x (inl (o, so, e)) =
    rw (e, operands_again (reg_code r) rm o x (reg_below r) so, reg_again r) refl
again (MovTo (rms.Reg s) r) a x (inr (o, so, e)) =
    rw (e, operands_again (reg_code s) (rms.Reg r) o x (reg_below s) so, reg_again s) refl
again (MovTo (rms.Mem m) r) a x (inr none) = absurd none
again (MovFrom r m) a x (o, so, e) =
    rw (e, operands_again (reg_code r) (rms.Mem m) o x (reg_below r) so, reg_again r) refl
again (ByteTo m b) a x (o, so, e) =
    rw (
      e,
      operands_again (reg_code (whole_of b)) (rms.Mem m) o x (reg_below (whole_of b)) so,
      byte_reg_again b,
    ) refl
again (ByteFrom b m) a x (o, so, e) =
    rw (
      e,
      operands_again (reg_code (whole_of b)) (rms.Mem m) o x (reg_below (whole_of b)) so,
      byte_reg_again b,
    ) refl
again (Widen r m) a x (o, so, e) =
    rw (e, operands_again (reg_code r) (rms.Mem m) o x (reg_below r) so, reg_again r) refl
again (WidenReg r b) a x (o, so, e) =
    rw (
      e,
      operands_again (reg_code r) (rms.Reg (whole_of b)) o x (reg_below r) so,
      byte_reg_again b,
      reg_again r,
    ) refl
again (Lea r m) a x (o, so, e) =
    rw (e, operands_again (reg_code r) (rms.Mem m) o x (reg_below r) so, reg_again r) refl
again (Alu op rm r) a x (inl (o, so, e)) =
    rw (
      e,
      alu_again op (o ++ x),
      operands_again (reg_code r) rm o x (reg_below r) so,
      reg_again r,
    ) refl
again (Alu op (rms.Reg s) r) a x (inr (o, so, e)) =
    rw (
      e,
      alu_from_again op (o ++ x),
      operands_again (reg_code s) (rms.Reg r) o x (reg_below s) so,
      reg_again s,
    ) refl
again (Alu op (rms.Mem m) r) a x (inr none) = absurd none
again (AluFrom op r m) a x (o, so, e) =
    rw (
      e,
      alu_from_again op (o ++ x),
      operands_again (reg_code r) (rms.Mem m) o x (reg_below r) so,
      reg_again r,
    ) refl
again (AluImm op rm n) a x (inl (o, i, so, is, e)) =
    rw (
      e,
      append_assoc o i x,
      operands_again (alu_code op) rm o (i ++ x) (alu_code_again op).1 so,
      (alu_code_again op).0,
      signed_again n i x is,
    ) refl
again (AluImm op rm n) a x (inr (o, i, so, is, e)) =
    rw (
      e,
      append_assoc o i x,
      operands_again (alu_code op) rm o (i ++ x) (alu_code_again op).1 so,
      (alu_code_again op).0,
      doubleword_again n i x is,
    ) refl
again (Test rm r) a x (o, so, e) =
    rw (e, operands_again (reg_code r) rm o x (reg_below r) so, reg_again r) refl
again (Inc r) a x e = rw (e, inc_again r x) refl
again (Dec r) a x e = rw (e, dec_again r x) refl
again (Push r) a x e = rw (e, push_again r x) refl
again (Pop r) a x e = rw (e, pop_again r x) refl
again (PushImm n) a x (i, is, e) = rw (e, doubleword_again n i x is) refl
again (Shift op rm count) a x (o, i, so, is, e) =
    rw (
      e,
      append_assoc o i x,
      operands_again (shift_code op) rm o (i ++ x) (shift_code_again op).1 so,
      (shift_code_again op).0,
      byte_again count i x is,
    ) refl
again (Imul r rm) a x (o, so, e) =
    rw (e, operands_again (reg_code r) rm o x (reg_below r) so, reg_again r) refl
again (Unary op rm) a x (o, so, e) =
    rw (
      e,
      operands_again (unary_code op) rm o x (unary_code_again op).1 so,
      (unary_code_again op).0,
    ) refl
again (Jmp rel) a x (inl (i, is, e)) = rw (e, doubleword_again rel i x is) refl
again (Jmp rel) a x (inr (i, is, e)) = rw (e, signed_again rel i x is) refl
again (Jcc c rel) a x (inl (i, is, e)) =
    rw (e, jcc_again c (i ++ x), doubleword_again rel i x is) refl
again (Jcc c rel) a x (inr (i, is, e)) =
    rw (e, short_jcc_again c (i ++ x), signed_again rel i x is) refl
again (Call rel) a x (i, is, e) = rw (e, doubleword_again rel i x is) refl
again Ret a x e = rw e refl
again (Gate n) a x (i, is, e) = rw (e, byte_again n i x is) refl
again Nop a x e = rw e refl
