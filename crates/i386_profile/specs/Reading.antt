-- Reading an instruction from the beginning of some bytes: what it is, and the bytes after it. This
-- is the order in which the decoder looks at bytes; that what it reads is what is spelled there is
-- proved, and no public clause cites it.
use Rattle.std.specs.Prelude.{ℕ, ◌/◌, ◌%◌, List, [], ◌∷◌, length, take, drop, Option, Some, None, if◌then◌else◌, nat_lt, ◌==◌}
use Rattle.std.specs.Int.{w32, from_le_bytes}
use Rattle.i386_profile.specs.declared.operands.Reg.{Reg}
use Rattle.i386_profile.specs.declared.operands.Reg.TheVariants.{Eax, Ecx, Edx, Ebx, Esp, Ebp, Esi, Edi}
use Rattle.i386_profile.specs.declared.operands.ByteReg.{ByteReg}
use Rattle.i386_profile.specs.declared.operands.ByteReg.TheVariants.{Al, Cl, Dl, Bl}
use Rattle.i386_profile.specs.declared.operands.Rm.{Rm}
use Rattle.i386_profile.specs.declared.operands.Rm.TheVariants as rms
use Rattle.i386_profile.specs.declared.ins.AluOp.{AluOp}
use Rattle.i386_profile.specs.declared.ins.AluOp.TheVariants.{Add, Or, And, Sub, Xor, Cmp}
use Rattle.i386_profile.specs.declared.ins.ShiftOp.{ShiftOp}
use Rattle.i386_profile.specs.declared.ins.ShiftOp.TheVariants.{Shl, Shr, Sar}
use Rattle.i386_profile.specs.declared.ins.UnaryOp.{UnaryOp}
use Rattle.i386_profile.specs.declared.ins.UnaryOp.TheVariants.{Not, Neg, Mul, Div}
use Rattle.i386_profile.specs.declared.ins.Cond.{Cond}
use Rattle.i386_profile.specs.declared.ins.Cond.TheVariants.{O, No, B, Ae, E, Ne, Be, A, S, Ns, L, Ge, Le, G}
use Rattle.i386_profile.specs.declared.ins.Ins.{Ins}
use Rattle.i386_profile.specs.declared.ins.Ins.TheVariants.{Load, Put, MovTo, MovFrom, ByteTo, ByteFrom, Widen, WidenReg, Lea, Alu, AluFrom, AluImm, Test, Inc, Dec, Push, Pop, PushImm, Shift, Imul, Unary, Jmp, Jcc, Call, Ret, Gate, Nop}
use Rattle.i386_profile.specs.Codes.{reg_code}
use Rattle.i386_profile.specs.Spelling.{sign_extended}

-- one reader after another
infixl 10 ◌>>=◌
abbrev pub ◌>>=◌ : {A B : Type 0} → Option A → (A → Option B) → Option B
(Some x) >>= f = f x
None >>= f = None

-- ---- numbers of registers, operations and conditions

-- the register of a number of three bits
abbrev pub reg_of : ℕ → Reg
reg_of n =
    if n == 0 then Eax else if n == 1 then Ecx else if n == 2 then Edx else if n == 3 then Ebx
    else if n == 4 then Esp else if n == 5 then Ebp else if n == 6 then Esi else Edi

-- the byte register of one
abbrev pub byte_reg_of : ℕ → Option ByteReg
byte_reg_of n =
    if n == 0 then Some Al else if n == 1 then Some Cl else if n == 2 then Some Dl
    else if n == 3 then Some Bl else None

-- as alu_code, shift_code, unary_code and cond_code number them
abbrev pub alu_of : ℕ → Option AluOp
alu_of n =
    if n == 0 then Some Add else if n == 1 then Some Or else if n == 4 then Some And
    else if n == 5 then Some Sub else if n == 6 then Some Xor else if n == 7 then Some Cmp else None

abbrev pub shift_of : ℕ → Option ShiftOp
shift_of n =
    if n == 4 then Some Shl else if n == 5 then Some Shr else if n == 7 then Some Sar else None

abbrev pub unary_of : ℕ → Option UnaryOp
unary_of n =
    if n == 2 then Some Not else if n == 3 then Some Neg else if n == 4 then Some Mul
    else if n == 6 then Some Div else None

-- the conditions 0 to 7, and from 8 on
abbrev pub low_cond_of : ℕ → Option Cond
low_cond_of n =
    if n == 0 then Some O else if n == 1 then Some No else if n == 2 then Some B
    else if n == 3 then Some Ae
    else if n == 4 then Some E else if n == 5 then Some Ne else if n == 6 then Some Be
    else if n == 7 then Some A else None

abbrev pub high_cond_of : ℕ → Option Cond
high_cond_of n =
    if n == 8 then Some S else if n == 9 then Some Ns else if n == 12 then Some L
    else if n == 13 then Some Ge else if n == 14 then Some Le else if n == 15 then Some G else None

abbrev pub cond_of : ℕ → Option Cond
cond_of n = if nat_lt n 8 then low_cond_of n else high_cond_of n

-- ---- numbers

-- one byte
abbrev pub byte_at : List ℕ → Option (ℕ × List ℕ)
byte_at [] = None
byte_at (b ∷ rest) = Some (b, rest)

-- four bytes, little-endian
abbrev pub doubleword_at : List ℕ → Option (ℕ × List ℕ)
doubleword_at bytes =
    if nat_lt (length bytes) 4 then None else Some (from_le_bytes w32 (take 4 bytes), drop 4 bytes)

-- one byte, sign-extended
abbrev pub signed_byte_at : List ℕ → Option (ℕ × List ℕ)
signed_byte_at [] = None
signed_byte_at (b ∷ rest) = Some (sign_extended b, rest)

-- ---- operands

-- an address as an operand
abbrev pub at : Option Reg → ℕ → Rm
at base disp = rms.Mem (record { base = base; disp = disp })

-- base and displacement, by mod
unfoldable pub displaced_at : ℕ → Reg → List ℕ → Option (Rm × List ℕ)
displaced_at mode base bytes =
    if mode == 0 then Some (at (Some base) 0, bytes)
    else if mode == 1 then (signed_byte_at bytes >>= λ d. Some (at (Some base) d.0, d.1))
    else (doubleword_at bytes >>= λ d. Some (at (Some base) d.0, d.1))

-- the operand of the fields mod and rm
unfoldable pub rm_at : ℕ → ℕ → List ℕ → Option (Rm × List ℕ)
rm_at mode code bytes =
    if mode == 3 then Some (rms.Reg (reg_of code), bytes)
    else if code == 4
    then (byte_at bytes >>= λ s. if s.0 == 0x24 then displaced_at mode Esp s.1 else None)
    else if code == 5 then (
    if mode == 0 then (doubleword_at bytes >>= λ d. Some (at None d.0, d.1))
    else displaced_at mode Ebp bytes
    )
    else displaced_at mode (reg_of code) bytes

-- the number in reg, and the operand of mod and rm
pub record Operands : Type 0 where
  pub reg : ℕ
  pub rm : Rm

-- ModRM and what belongs to it
unfoldable pub operands_at : List ℕ → Option (Operands × List ℕ)
operands_at bytes = do
  m ← byte_at bytes
  rm ← rm_at (m.0 / 64) (m.0 % 8) m.1
  Some (record { reg = m.0 / 8 % 8; rm = rm.0 }, rm.1)

-- ---- instructions, by groups of opcodes

-- the instruction, and the bytes after it
abbrev pub Read : Type 0
Read = Option (Ins × List ℕ)

-- 8B
abbrev pub mov_from : Reg → Rm → Ins
mov_from r (rms.Reg s) = MovTo (rms.Reg r) s
mov_from r (rms.Mem m) = MovFrom r m

-- 03 to 3B
abbrev pub alu_from : AluOp → Reg → Rm → Ins
alu_from op r (rms.Reg s) = Alu op (rms.Reg r) s
alu_from op r (rms.Mem m) = AluFrom op r m

-- 8D
abbrev pub lea : Reg → Rm → Option Ins
lea r (rms.Reg s) = None
lea r (rms.Mem m) = Some (Lea r m)

-- 88
abbrev pub byte_to : ℕ → Rm → Option Ins
byte_to reg (rms.Reg s) = None
byte_to reg (rms.Mem m) = byte_reg_of reg >>= λ b. Some (ByteTo m b)

-- 8A
abbrev pub byte_from : ℕ → Rm → Option Ins
byte_from reg (rms.Reg s) = None
byte_from reg (rms.Mem m) = byte_reg_of reg >>= λ b. Some (ByteFrom b m)

-- B6 after 0F, and its operand
abbrev pub widen : Reg → Rm → Option Ins
widen r (rms.Reg s) = byte_reg_of (reg_code s) >>= λ b. Some (WidenReg r b)
widen r (rms.Mem m) = Some (Widen r m)

-- C7
abbrev pub put : Rm → ℕ → Ins
put (rms.Reg r) n = Load r n
put (rms.Mem m) n = Put m n

-- 01 to 3B: an operation and its direction
unfoldable pub alu_at : ℕ → List ℕ → Read
alu_at opcode bytes = do
  op ← alu_of (opcode / 8)
  o ← operands_at bytes
  if opcode % 8 == 1 then Some (Alu op o.0.rm (reg_of o.0.reg), o.1)
      else if opcode % 8 == 3 then Some (alu_from op (reg_of o.0.reg) o.0.rm, o.1)
      else None

-- 40 to 5F: a register in the opcode
unfoldable pub register_at : ℕ → List ℕ → Read
register_at opcode bytes =
    if opcode / 8 == 8 then Some (Inc (reg_of (opcode % 8)), bytes)
    else if opcode / 8 == 9 then Some (Dec (reg_of (opcode % 8)), bytes)
    else if opcode / 8 == 10 then Some (Push (reg_of (opcode % 8)), bytes)
    else if opcode / 8 == 11 then Some (Pop (reg_of (opcode % 8)), bytes)
    else None

-- 68, B8 to BF, E8, E9: a doubleword after the opcode
unfoldable pub immediate_at : ℕ → List ℕ → Read
immediate_at opcode bytes = do
  n ← doubleword_at bytes
  if opcode == 0x68 then Some (PushImm n.0, n.1)
      else if opcode == 0xE8 then Some (Call n.0, n.1)
      else if opcode == 0xE9 then Some (Jmp n.0, n.1)
      else if opcode / 8 == 0x17 then Some (Load (reg_of (opcode % 8)) n.0, n.1)
      else None

-- 70 to 7F: a condition in the opcode
unfoldable pub short_jcc_at : ℕ → List ℕ → Read
short_jcc_at opcode bytes = do
  c ← cond_of (opcode % 16)
  rel ← signed_byte_at bytes
  Some (Jcc c rel.0, rel.1)

-- 80 to 8F after 0F: the same
unfoldable pub jcc_at : ℕ → List ℕ → Read
jcc_at opcode bytes = do
  c ← cond_of (opcode % 16)
  rel ← doubleword_at bytes
  Some (Jcc c rel.0, rel.1)

-- 81, 83: operands and an immediate
unfoldable pub alu_imm_at : ℕ → List ℕ → Read
alu_imm_at opcode bytes = do
  o ← operands_at bytes
  op ← alu_of o.0.reg
  n ← (if opcode == 0x83 then signed_byte_at o.1 else doubleword_at o.1)
  Some (AluImm op o.0.rm n.0, n.1)

-- the instruction of 85, 88 to 8B, 8D
abbrev pub mov_ins : ℕ → ℕ → Rm → Option Ins
mov_ins opcode reg rm =
    if opcode == 0x85 then Some (Test rm (reg_of reg))
    else if opcode == 0x88 then byte_to reg rm
    else if opcode == 0x89 then Some (MovTo rm (reg_of reg))
    else if opcode == 0x8A then byte_from reg rm
    else if opcode == 0x8B then Some (mov_from (reg_of reg) rm)
    else if opcode == 0x8D then lea (reg_of reg) rm
    else None

-- 84 to 8F
unfoldable pub mov_at : ℕ → List ℕ → Read
mov_at opcode bytes = do
  o ← operands_at bytes
  ins ← mov_ins opcode o.0.reg o.0.rm
  Some (ins, o.1)

-- C1
unfoldable pub shift_at : List ℕ → Read
shift_at bytes = do
  o ← operands_at bytes
  op ← shift_of o.0.reg
  n ← byte_at o.1
  Some (Shift op o.0.rm n.0, n.1)

-- C7
unfoldable pub put_at : List ℕ → Read
put_at bytes = do
  o ← operands_at bytes
  if o.0.reg == 0 then (doubleword_at o.1 >>= λ n. Some (put o.0.rm n.0, n.1)) else None

-- CD
unfoldable pub gate_at : List ℕ → Read
gate_at bytes = byte_at bytes >>= λ n. Some (Gate n.0, n.1)

-- EB
unfoldable pub short_jmp_at : List ℕ → Read
short_jmp_at bytes = signed_byte_at bytes >>= λ rel. Some (Jmp rel.0, rel.1)

-- F7
unfoldable pub unary_at : List ℕ → Read
unary_at bytes = do
  o ← operands_at bytes
  op ← unary_of o.0.reg
  Some (Unary op o.0.rm, o.1)

-- AF after 0F
unfoldable pub imul_at : List ℕ → Read
imul_at bytes = operands_at bytes >>= λ o. Some (Imul (reg_of o.0.reg) o.0.rm, o.1)

-- B6 after 0F
unfoldable pub widen_at : List ℕ → Read
widen_at bytes = do
  o ← operands_at bytes
  ins ← widen (reg_of o.0.reg) o.0.rm
  Some (ins, o.1)

-- after 0F
unfoldable pub two_byte_at : List ℕ → Read
two_byte_at bytes = do
  opcode ← byte_at bytes
  if opcode.0 / 16 == 8 then jcc_at opcode.0 opcode.1
      else if opcode.0 == 0xAF then imul_at opcode.1
      else if opcode.0 == 0xB6 then widen_at opcode.1
      else None

-- 00 to 7F
unfoldable pub low_at : ℕ → List ℕ → Read
low_at opcode bytes =
    if opcode == 0x0F then two_byte_at bytes
    else if nat_lt opcode 0x40 then alu_at opcode bytes
    else if nat_lt opcode 0x60 then register_at opcode bytes
    else if opcode == 0x68 then immediate_at opcode bytes
    else if nat_lt opcode 0x70 then None
    else if nat_lt opcode 0x80 then short_jcc_at opcode bytes
    else None

-- 80 to BF
unfoldable pub middle_at : ℕ → List ℕ → Read
middle_at opcode bytes =
    if opcode == 0x81 then alu_imm_at opcode bytes
    else if opcode == 0x83 then alu_imm_at opcode bytes
    else if nat_lt opcode 0x84 then None
    else if nat_lt opcode 0x90 then mov_at opcode bytes
    else if opcode == 0x90 then Some (Nop, bytes)
    else if nat_lt opcode 0xB8 then None
    else if nat_lt opcode 0xC0 then immediate_at opcode bytes
    else None

-- C0 to FF
unfoldable pub high_at : ℕ → List ℕ → Read
high_at opcode bytes =
    if opcode == 0xC1 then shift_at bytes
    else if opcode == 0xC3 then Some (Ret, bytes)
    else if opcode == 0xC7 then put_at bytes
    else if opcode == 0xCD then gate_at bytes
    else if opcode == 0xE8 then immediate_at opcode bytes
    else if opcode == 0xE9 then immediate_at opcode bytes
    else if opcode == 0xEB then short_jmp_at bytes
    else if opcode == 0xF7 then unary_at bytes
    else None

-- the instruction at the beginning
unfoldable pub instruction_at : List ℕ → Read
instruction_at bytes = do
  opcode ← byte_at bytes
  if nat_lt opcode.0 0x80 then low_at opcode.0 opcode.1
      else if nat_lt opcode.0 0xC0 then middle_at opcode.0 opcode.1
      else high_at opcode.0 opcode.1
