-- What each instruction does to registers, flags and the segment's bytes, a case for each (i386
-- manuals, "Instruction Set"). A flag that the manuals leave undefined stays as it was. eip is the
-- offset after the instruction on entry.
use Rattle.std.specs.Prelude.{◌≡◌, ℕ, ◌+◌, ◌-◌, ◌*◌, ◌/◌, ◌%◌, ◌^◌, false, List, Option, Some, None, Result, Ok, Err, if◌then◌else◌, nat_le, ◌==◌, bit_and}
use Rattle.i386_profile.specs.declared.operands.Reg.{Reg}
use Rattle.i386_profile.specs.declared.operands.Reg.TheVariants.{Eax, Edx, Esp}
use Rattle.i386_profile.specs.declared.operands.Mem.{Mem}
use Rattle.i386_profile.specs.declared.operands.Rm.{Rm}
use Rattle.i386_profile.specs.declared.operands.Rm.TheVariants as rms
use Rattle.i386_profile.specs.declared.ins.AluOp.{AluOp}
use Rattle.i386_profile.specs.declared.ins.AluOp.TheVariants.{Cmp}
use Rattle.i386_profile.specs.declared.ins.ShiftOp.{ShiftOp}
use Rattle.i386_profile.specs.declared.ins.UnaryOp.{UnaryOp}
use Rattle.i386_profile.specs.declared.ins.UnaryOp.TheVariants.{Not, Neg, Mul, Div}
use Rattle.i386_profile.specs.declared.ins.Ins.{Ins}
use Rattle.i386_profile.specs.declared.ins.Ins.TheVariants.{Load, Put, MovTo, MovFrom, ByteTo, ByteFrom, Widen, WidenReg, Lea, Alu, AluFrom, AluImm, Test, Inc, Dec, Push, Pop, PushImm, Shift, Imul, Unary, Jmp, Jcc, Call, Ret, Gate, Nop}
use Rattle.i386_profile.specs.declared.cpu.Cpu.{Cpu}
use Rattle.i386_profile.specs.declared.cpu.Step.{Step}
use Rattle.i386_profile.specs.declared.cpu.Step.TheVariants as steps
use Rattle.i386_profile.specs.declared.cpu.FaultKind.{FaultKind}
use Rattle.i386_profile.specs.declared.cpu.FaultKind.TheVariants as faults
use Rattle.i386_profile.specs.declared.segment.Outside.{Outside}
use Rattle.i386_profile.specs.Codes.{whole_of}
use Rattle.i386_profile.specs.Segments.{load8, load32, store8, store32}
use Rattle.i386_profile.specs.Flags.{get, set, with_flags, with_carry_overflow, holds, alu_value, alu_flags, inc, dec, not_value, neg_value, neg_flags, mul, shift_value, shift_flags, product_of, product_overflows, pop_state, jump_state}

-- ---- states and outcomes

-- all that an instruction sees and changes
pub record State : Type 0 where
  pub cpu : Cpu
  pub bytes : List ℕ

-- a state of these parts
abbrev pub state : Cpu → List ℕ → State
state cpu bytes = record { cpu = cpu; bytes = bytes }

-- what an instruction leads to: the next one, a call of the machine, or a fault that changes
-- nothing
pub data Outcome : Type 0 where
  GoesOn : State → Outcome
  CallsGate : ℕ → State → Outcome
  Faults : FaultKind → Outcome

-- the state after accesses that may lie outside
abbrev pub Reached : Type 0
Reached = Result State Outside

-- an access that lies outside ends what goes on from it
infixl 10 ◌>>=◌
abbrev pub ◌>>=◌ : {A B : Type 0} → Result A Outside → (A → Result B Outside) → Result B Outside
(Ok x) >>= f = f x
(Err e) >>= f = Err e

-- An access that lies outside is the fault Segment.
abbrev pub ends : Reached → Outcome
ends (Ok s) = GoesOn s
ends (Err e) = Faults faults.Segment

-- the answer of a call that makes such accesses
abbrev pub step_of : {U : Type 0} → Result U Outside → Step
step_of (Ok u) = steps.Next
step_of (Err e) = steps.Fault faults.Segment

-- ---- operands

-- a new value in one register
abbrev pub with_reg : State → Reg → ℕ → State
with_reg s r value = record s { cpu = set s.cpu r value }

-- the base's value; without a base there is 0
abbrev pub base_of : Cpu → Option Reg → ℕ
base_of c None = 0
base_of c (Some r) = get c r

-- base plus displacement
abbrev pub address : Cpu → Mem → ℕ
address c m = (base_of c m.base + m.disp) % 2 ^ 32

-- an operand's value
abbrev pub load_rm : State → Rm → Result ℕ Outside
load_rm s (rms.Reg r) = Ok (get s.cpu r)
load_rm s (rms.Mem m) = load32 (address s.cpu m) s.bytes

-- an operand with a new value
abbrev pub store_rm : Rm → ℕ → State → Reached
store_rm (rms.Reg r) value s = Ok (with_reg s r value)
store_rm (rms.Mem m) value s =
    store32 (address s.cpu m) value s.bytes >>= λ bytes. Ok (record s { bytes = bytes })

-- ---- moves

-- mov r, m
unfoldable pub after_mov_from : Reg → Mem → State → Reached
after_mov_from r m s = do
  value ← load32 (address s.cpu m) s.bytes
  Ok (with_reg s r value)

-- mov m, b: the low byte of r
unfoldable pub after_byte_to : Mem → Reg → State → Reached
after_byte_to m r s = do
  bytes ← store8 (address s.cpu m) (get s.cpu r % 256) s.bytes
  Ok (record s { bytes = bytes })

-- mov b, m: the low byte of r alone
unfoldable pub after_byte_from : Reg → Mem → State → Reached
after_byte_from r m s = do
  value ← load8 (address s.cpu m) s.bytes
  Ok (with_reg s r (get s.cpu r / 256 * 256 + value))

-- movzx r, byte m
unfoldable pub after_widen : Reg → Mem → State → Reached
after_widen r m s = do
  value ← load8 (address s.cpu m) s.bytes
  Ok (with_reg s r value)

-- ---- arithmetic

-- cmp sets the flags alone
abbrev pub alu_store : AluOp → Rm → ℕ → State → Reached
alu_store Cmp rm value s = Ok s
alu_store op rm value s = store_rm rm value s

-- op rm, b
unfoldable pub after_alu : AluOp → Rm → ℕ → State → Reached
after_alu op rm b s = do
  a ← load_rm s rm
  alu_store op rm (alu_value op a b) (record s { cpu = alu_flags op s.cpu a b })

-- op r, m
unfoldable pub after_alu_from : AluOp → Reg → Mem → State → Reached
after_alu_from op r m s = do
  b ← load32 (address s.cpu m) s.bytes
  after_alu op (rms.Reg r) b s

-- test rm, b: the flags of and
unfoldable pub after_test : Rm → ℕ → State → Reached
after_test rm b s = do
  a ← load_rm s rm
  Ok (record s { cpu = with_flags s.cpu false false (bit_and a b) })

-- shl, shr, sar: the count is taken modulo 32
unfoldable pub after_shift : ShiftOp → Rm → ℕ → State → Reached
after_shift op rm count s = do
  a ← load_rm s rm
  let n = count % 32
  store_rm rm (shift_value op a n) (record s { cpu = shift_flags op s.cpu a n })

-- imul r, rm: zero and sign are kept
unfoldable pub after_imul : Reg → Rm → State → Reached
after_imul r rm s = do
  b ← load_rm s rm
  let a = get s.cpu r
  let overflow = product_overflows a b
  Ok (record s { cpu = set (with_carry_overflow s.cpu overflow overflow) r (product_of a b) })

-- not rm keeps the flags
unfoldable pub after_not : Rm → State → Reached
after_not rm s = do
  a ← load_rm s rm
  store_rm rm (not_value a) s

-- neg rm
unfoldable pub after_neg : Rm → State → Reached
after_neg rm s = do
  a ← load_rm s rm
  store_rm rm (neg_value a) (record s { cpu = neg_flags s.cpu a })

-- mul rm
unfoldable pub after_mul : Rm → State → Reached
after_mul rm s = do
  b ← load_rm s rm
  Ok (record s { cpu = mul s.cpu b })

-- edx:eax by the divisor, the quotient in eax and the remainder in edx. Divide comes exactly where
-- the divisor, once it is loaded, is 0, or the quotient passes 32 bits. The flags are kept.
abbrev pub quotient_outcome : Result ℕ Outside → State → Outcome
quotient_outcome (Err e) s = Faults faults.Segment
quotient_outcome (Ok divisor) s =
    let dividend = get s.cpu Edx * 2 ^ 32 + get s.cpu Eax in
    if divisor == 0 then Faults faults.Divide
    else if nat_le (2 ^ 32) (dividend / divisor) then Faults faults.Divide
    else
    let c = set (set s.cpu Eax (dividend / divisor)) Edx (dividend % divisor) in
    GoesOn (record s { cpu = c })

-- div rm
unfoldable pub after_div : Rm → State → Outcome
after_div rm s = quotient_outcome (load_rm s rm) s

-- ---- stack and jumps

-- push: a doubleword below the stack's top
unfoldable pub after_push : ℕ → State → Reached
after_push value s = do
  let top = (get s.cpu Esp + 2 ^ 32 - 4) % 2 ^ 32
  bytes ← store32 top value s.bytes
  Ok (state (set s.cpu Esp top) bytes)

-- pop r: the register is set last, so that esp takes the value too
unfoldable pub after_pop : Reg → State → Reached
after_pop r s = do
  value ← load32 (get s.cpu Esp) s.bytes
  Ok (record s { cpu = set (pop_state s.cpu) r value })

-- call: eip is pushed, then moved
unfoldable pub after_call : ℕ → State → Reached
after_call rel s = do
  pushed ← after_push s.cpu.eip s
  Ok (record pushed { cpu = jump_state pushed.cpu rel })

-- ret: eip is popped
unfoldable pub after_ret : State → Reached
after_ret s = do
  value ← load32 (get s.cpu Esp) s.bytes
  let c = pop_state s.cpu
  Ok (record s { cpu = record c { eip = value } })

-- ---- the table

-- not, neg, mul, div
abbrev pub does_unary : UnaryOp → Rm → State → Outcome
does_unary Not rm s = ends (after_not rm s)
does_unary Neg rm s = ends (after_neg rm s)
does_unary Mul rm s = ends (after_mul rm s)
does_unary Div rm s = after_div rm s

-- what an instruction leads to
abbrev pub does : Ins → State → Outcome
does (Load r n) s = GoesOn (with_reg s r n)
does (Put m n) s = ends (store_rm (rms.Mem m) n s)
does (MovTo rm r) s = ends (store_rm rm (get s.cpu r) s)
does (MovFrom r m) s = ends (after_mov_from r m s)
does (ByteTo m b) s = ends (after_byte_to m (whole_of b) s)
does (ByteFrom b m) s = ends (after_byte_from (whole_of b) m s)
does (Widen r m) s = ends (after_widen r m s)
does (WidenReg r b) s = GoesOn (with_reg s r (get s.cpu (whole_of b) % 256))
does (Lea r m) s = GoesOn (with_reg s r (address s.cpu m))
does (Alu op rm r) s = ends (after_alu op rm (get s.cpu r) s)
does (AluFrom op r m) s = ends (after_alu_from op r m s)
does (AluImm op rm n) s = ends (after_alu op rm n s)
does (Test rm r) s = ends (after_test rm (get s.cpu r) s)
does (Inc r) s = GoesOn (record s { cpu = inc s.cpu r })
does (Dec r) s = GoesOn (record s { cpu = dec s.cpu r })
does (Push r) s = ends (after_push (get s.cpu r) s)
does (Pop r) s = ends (after_pop r s)
does (PushImm n) s = ends (after_push n s)
does (Shift op rm count) s = ends (after_shift op rm count s)
does (Imul r rm) s = ends (after_imul r rm s)
does (Unary op rm) s = does_unary op rm s
does (Jmp rel) s = GoesOn (record s { cpu = jump_state s.cpu rel })
does (Jcc c rel) s =
    GoesOn (record s { cpu = if holds c s.cpu then jump_state s.cpu rel else s.cpu })
does (Call rel) s = ends (after_call rel s)
does Ret s = ends (after_ret s)
does (Gate n) s = CallsGate n s
does Nop s = GoesOn s

-- ---- what a call answers and leaves

-- an outcome as a step, and the state that is left
abbrev pub Answers : Outcome → Step → State → State → Type 0
Answers (GoesOn made) step old new = (step ≡ steps.Next) × (new ≡ made)
Answers (CallsGate n made) step old new = (step ≡ steps.Gate n) × (new ≡ made)
Answers (Faults kind) step old new = (step ≡ steps.Fault kind) × (new ≡ old)

-- The call answers and leaves what the instruction does, and a fault leaves all as on entry.
abbrev pub Does : Ins → Step → State → State → Type 0
Does ins step old new = Answers (does ins old) step old new

-- A fault leaves all as on entry.
abbrev pub IsKeptByFault : Step → State → State → Type 0
IsKeptByFault (steps.Fault kind) old new = new ≡ old
IsKeptByFault other old new = Unit {0}
