-- What a statement stands for, by its word and its operands, and the bytes that it gives.
use Rattle.std.specs.Prelude.{ℕ, ◌+◌, ◌-◌, ◌%◌, ◌^◌, List, [], ◌∷◌, length, replicate, Option, Some, None, option_map, ℤ, pos, negsuc}
use Rattle.std.specs.Int.{w32, to_le_bytes}
use Rattle.i386_profile.specs.declared.operands.Reg.{Reg}
use Rattle.i386_profile.specs.declared.operands.Mem.{Mem}
use Rattle.i386_profile.specs.declared.operands.Rm.TheVariants as rms
use Rattle.i386_profile.specs.declared.ins.AluOp.{AluOp}
use Rattle.i386_profile.specs.declared.ins.ShiftOp.{ShiftOp}
use Rattle.i386_profile.specs.declared.ins.UnaryOp.{UnaryOp}
use Rattle.i386_profile.specs.declared.ins.Ins.{Ins}
use Rattle.i386_profile.specs.declared.ins.Ins.TheVariants as i
use Rattle.i386_profile.specs.Chosen.{chosen}
use Rattle.pal_asm.specs.declared.names.Branch.{Branch}
use Rattle.pal_asm.specs.declared.names.Branch.TheVariants as branch
use Rattle.pal_asm.specs.declared.name.Name.{Name}
use Rattle.pal_asm.specs.declared.names.Mnemonic.{Mnemonic}
use Rattle.pal_asm.specs.declared.names.Mnemonic.TheVariants as m
use Rattle.pal_asm.specs.declared.operand.Place.{Place}
use Rattle.pal_asm.specs.declared.operand.Operand.{Operand}
use Rattle.pal_asm.specs.declared.operand.Operand.TheVariants.{Register, ByteRegister, Number, Label, Memory, Dword, Byte}
use Rattle.pal_asm.specs.declared.operand.Target.{Target}
use Rattle.pal_asm.specs.declared.operand.Target.TheVariants as target
use Rattle.pal_asm.specs.declared.limits.TheConstants.{MOST_CODE}
use Rattle.pal_asm.specs.Numbers.{low32, low8}

-- a statement: an instruction, one that waits for a label's value, or bytes
pub data Statement : Type 0 where
  Whole : (ins : Ins) → Statement
  LoadLabel : (r : Reg) → (name : Name) → Statement
  PushLabel : (name : Name) → Statement
  Jump : (branch : Branch) → (target : Target) → Statement
  Bytes : (bytes : List ℕ) → Statement
  Long : (n : ℕ) → Statement
  Zeros : (n : ℕ) → Statement

-- ---- the table, in the order of docs/I386.md

-- a place with its displacement modulo 2 ^ 32
abbrev pub memory : Place → Mem
memory place = record { base = place.base; disp = low32 place.displacement }

abbrev pub mov_of : List Operand → Option Statement
mov_of (Register r ∷ Number n ∷ []) = Some (Whole (i.Load r (low32 n)))
mov_of (Register r ∷ Label name ∷ []) = Some (LoadLabel r name)
mov_of (Dword p ∷ Number n ∷ []) = Some (Whole (i.Put (memory p) (low32 n)))
mov_of (Register s ∷ Register r ∷ []) = Some (Whole (i.MovTo (rms.Reg s) r))
mov_of (Memory p ∷ Register r ∷ []) = Some (Whole (i.MovTo (rms.Mem (memory p)) r))
mov_of (Register r ∷ Memory p ∷ []) = Some (Whole (i.MovFrom r (memory p)))
mov_of (Memory p ∷ ByteRegister b ∷ []) = Some (Whole (i.ByteTo (memory p) b))
mov_of (ByteRegister b ∷ Memory p ∷ []) = Some (Whole (i.ByteFrom b (memory p)))
mov_of _ = None

abbrev pub movzx_of : List Operand → Option Statement
movzx_of (Register r ∷ Byte p ∷ []) = Some (Whole (i.Widen r (memory p)))
movzx_of (Register r ∷ ByteRegister b ∷ []) = Some (Whole (i.WidenReg r b))
movzx_of _ = None

abbrev pub lea_of : List Operand → Option Statement
lea_of (Register r ∷ Memory p ∷ []) = Some (Whole (i.Lea r (memory p)))
lea_of _ = None

abbrev pub alu_of : AluOp → List Operand → Option Statement
alu_of op (Register s ∷ Register r ∷ []) = Some (Whole (i.Alu op (rms.Reg s) r))
alu_of op (Memory p ∷ Register r ∷ []) = Some (Whole (i.Alu op (rms.Mem (memory p)) r))
alu_of op (Register r ∷ Memory p ∷ []) = Some (Whole (i.AluFrom op r (memory p)))
alu_of op (Register r ∷ Number n ∷ []) = Some (Whole (i.AluImm op (rms.Reg r) (low32 n)))
alu_of op (Dword p ∷ Number n ∷ []) = Some (Whole (i.AluImm op (rms.Mem (memory p)) (low32 n)))
alu_of op _ = None

abbrev pub test_of : List Operand → Option Statement
test_of (Register s ∷ Register r ∷ []) = Some (Whole (i.Test (rms.Reg s) r))
test_of (Memory p ∷ Register r ∷ []) = Some (Whole (i.Test (rms.Mem (memory p)) r))
test_of _ = None

-- inc, dec and pop take a register
abbrev pub register_alone : (Reg → Ins) → List Operand → Option Statement
register_alone make (Register r ∷ []) = Some (Whole (make r))
register_alone make _ = None

abbrev pub push_of : List Operand → Option Statement
push_of (Register r ∷ []) = Some (Whole (i.Push r))
push_of (Number n ∷ []) = Some (Whole (i.PushImm (low32 n)))
push_of (Label name ∷ []) = Some (PushLabel name)
push_of _ = None

abbrev pub shift_of : ShiftOp → List Operand → Option Statement
shift_of op (Register r ∷ Number n ∷ []) = Some (Whole (i.Shift op (rms.Reg r) (low8 n)))
shift_of op (Dword p ∷ Number n ∷ []) = Some (Whole (i.Shift op (rms.Mem (memory p)) (low8 n)))
shift_of op _ = None

abbrev pub imul_of : List Operand → Option Statement
imul_of (Register r ∷ Register s ∷ []) = Some (Whole (i.Imul r (rms.Reg s)))
imul_of (Register r ∷ Memory p ∷ []) = Some (Whole (i.Imul r (rms.Mem (memory p))))
imul_of _ = None

abbrev pub unary_of : UnaryOp → List Operand → Option Statement
unary_of op (Register r ∷ []) = Some (Whole (i.Unary op (rms.Reg r)))
unary_of op (Dword p ∷ []) = Some (Whole (i.Unary op (rms.Mem (memory p))))
unary_of op _ = None

-- a jump or a call to a label or to an offset
abbrev pub branch_of : Branch → List Operand → Option Statement
branch_of b (Label name ∷ []) = Some (Jump b (target.Label name))
branch_of b (Number n ∷ []) = Some (Jump b (target.Offset (low32 n)))
branch_of b _ = None

-- ret and nop take nothing
abbrev pub nothing_after : Ins → List Operand → Option Statement
nothing_after ins [] = Some (Whole ins)
nothing_after ins _ = None

abbrev pub int_of : List Operand → Option Statement
int_of (Number n ∷ []) = Some (Whole (i.Gate (low8 n)))
int_of _ = None

-- the low bytes of operands that are all numbers
abbrev pub numbers_of : List Operand → Option (List ℕ)
numbers_of [] = Some []
numbers_of (Number n ∷ os) = option_map (λ ns. low8 n ∷ ns) (numbers_of os)
numbers_of _ = None

-- .byte takes one number or more
abbrev pub byte_of : List Operand → Option Statement
byte_of [] = None
byte_of (o ∷ os) = option_map Bytes (numbers_of (o ∷ os))

abbrev pub long_of : List Operand → Option Statement
long_of (Number n ∷ []) = Some (Long (low32 n))
long_of _ = None

abbrev pub zero_of : List Operand → Option Statement
zero_of (Number n ∷ []) = Some (Zeros (low32 n))
zero_of _ = None

-- the statement of a word and its operands
abbrev pub statement_of : Mnemonic → List Operand → Option Statement
statement_of m.Mov os = mov_of os
statement_of m.Movzx os = movzx_of os
statement_of m.Lea os = lea_of os
statement_of (m.Alu op) os = alu_of op os
statement_of m.Test os = test_of os
statement_of m.Inc os = register_alone i.Inc os
statement_of m.Dec os = register_alone i.Dec os
statement_of m.Push os = push_of os
statement_of m.Pop os = register_alone i.Pop os
statement_of (m.Shift op) os = shift_of op os
statement_of m.Imul os = imul_of os
statement_of (m.Unary op) os = unary_of op os
statement_of (m.Branch b) os = branch_of b os
statement_of m.Ret os = nothing_after i.Ret os
statement_of m.Int os = int_of os
statement_of m.Nop os = nothing_after i.Nop os
statement_of m.Byte os = byte_of os
statement_of m.Long os = long_of os
statement_of m.Zero os = zero_of os

-- ---- ranges

-- the most bytes of code
abbrev pub most_code : ℕ
most_code = MOST_CODE

-- the least and the most number that may stand with a word, outside brackets
abbrev pub least_number : Mnemonic → ℤ
least_number (m.Shift op) = pos 0
least_number (m.Branch b) = pos 0
least_number m.Int = pos 0
least_number m.Byte = negsuc 127
least_number m.Zero = pos 0
least_number _ = negsuc (2 ^ 31 - 1)

abbrev pub most_number : Mnemonic → ℤ
most_number (m.Shift op) = pos 255
most_number m.Int = pos 255
most_number m.Byte = pos 255
most_number m.Zero = pos most_code
most_number _ = pos (2 ^ 32 - 1)

-- ---- bytes

-- an offset as a distance from another, modulo 2 ^ 32
abbrev pub distance : ℕ → ℕ → ℕ
distance target after = (target % 2 ^ 32 + (2 ^ 32 - after % 2 ^ 32)) % 2 ^ 32

-- a jump or a call by a distance
abbrev pub branch_by : Branch → ℕ → Ins
branch_by branch.Jmp rel = i.Jmp rel
branch_by (branch.Jcc c) rel = i.Jcc c rel
branch_by branch.Call rel = i.Call rel

-- a jump or a call at an offset: the distance counts from the offset after it, where the next
-- instruction stands
abbrev pub branch_at : Branch → ℕ → ℕ → List ℕ
branch_at b target at =
    chosen (branch_by b (distance target (at + length (chosen (branch_by b 0)))))

-- the offset of a target, where a label has this value
abbrev pub target_offset : ℕ → Target → ℕ
target_offset value (target.Label name) = value
target_offset value (target.Offset n) = n

-- the bytes of a statement at an offset, where the label that it waits for has this value
abbrev pub bytes_at : ℕ → ℕ → Statement → List ℕ
bytes_at at value (Whole ins) = chosen ins
bytes_at at value (LoadLabel r name) = chosen (i.Load r value)
bytes_at at value (PushLabel name) = chosen (i.PushImm value)
bytes_at at value (Jump b t) = branch_at b (target_offset value t) at
bytes_at at value (Bytes bytes) = bytes
bytes_at at value (Long n) = to_le_bytes w32 n
bytes_at at value (Zeros n) = replicate n 0

-- how many bytes a statement has, whatever its label's value and wherever it stands
abbrev pub size_of : Statement → ℕ
size_of statement = length (bytes_at 0 0 statement)

-- the label that a statement waits for
abbrev pub target_label : Target → Option Name
target_label (target.Label name) = Some name
target_label (target.Offset n) = None

abbrev pub label_of : Statement → Option Name
label_of (LoadLabel r name) = Some name
label_of (PushLabel name) = Some name
label_of (Jump b t) = target_label t
label_of _ = None
