-- Whether operands fit a statement does not depend on their numbers, and more than two fit none but
-- .byte.
use Rattle.std.proofs.Common.{◌≡◌, ◌≢◌, ◌<◌, List, [], ◌∷◌, length, map, refl, arith}
use Rattle.std.specs.Prelude.{Option, None, is_some}
use Rattle.i386_profile.specs.declared.operands.Reg.{Reg}
use Rattle.i386_profile.specs.declared.ins.AluOp.{AluOp}
use Rattle.i386_profile.specs.declared.ins.ShiftOp.{ShiftOp}
use Rattle.i386_profile.specs.declared.ins.UnaryOp.{UnaryOp}
use Rattle.i386_profile.specs.declared.ins.Ins.{Ins}
use Rattle.pal_asm.specs.declared.names.Branch.{Branch}
use Rattle.pal_asm.specs.declared.names.Mnemonic.{Mnemonic}
use Rattle.pal_asm.specs.declared.names.Mnemonic.TheVariants as m
use Rattle.pal_asm.specs.declared.operand.Operand.{Operand}
use Rattle.pal_asm.specs.declared.operand.Operand.TheVariants.{Register, ByteRegister, Number, Label, Memory, Dword, Byte}
use Rattle.pal_asm.specs.Seen.{operand_as}
use Rattle.pal_asm.specs.Statements.{Statement, mov_of, movzx_of, lea_of, alu_of, test_of, register_alone, push_of, shift_of, imul_of, unary_of, branch_of, nothing_after, int_of, long_of, zero_of, statement_of}

-- the same form with numbers as the code reads them, and none for more than two operands
abbrev pub IsFormed : (List Operand → Option Statement) → List Operand → Type 0
IsFormed form os = (is_some (form (map operand_as os)) ≡ is_some (form os)) × (2 < length os
    → form os ≡ None)

of_mov : (os : List Operand) → IsFormed mov_of os
of_mov (Register r ∷ Number n ∷ []) = (refl, λ h. absurd (omega arith))
of_mov (Register r ∷ Label n ∷ []) = (refl, λ h. absurd (omega arith))
of_mov (Dword p ∷ Number n ∷ []) = (refl, λ h. absurd (omega arith))
of_mov (Register s ∷ Register r ∷ []) = (refl, λ h. absurd (omega arith))
of_mov (Memory p ∷ Register r ∷ []) = (refl, λ h. absurd (omega arith))
of_mov (Register r ∷ Memory p ∷ []) = (refl, λ h. absurd (omega arith))
of_mov (Memory p ∷ ByteRegister b ∷ []) = (refl, λ h. absurd (omega arith))
of_mov (ByteRegister b ∷ Memory p ∷ []) = (refl, λ h. absurd (omega arith))
of_mov _ = (refl, λ _. refl)

of_movzx : (os : List Operand) → IsFormed movzx_of os
of_movzx (Register r ∷ Byte p ∷ []) = (refl, λ h. absurd (omega arith))
of_movzx (Register r ∷ ByteRegister b ∷ []) = (refl, λ h. absurd (omega arith))
of_movzx _ = (refl, λ _. refl)

of_lea : (os : List Operand) → IsFormed lea_of os
of_lea (Register r ∷ Memory p ∷ []) = (refl, λ h. absurd (omega arith))
of_lea _ = (refl, λ _. refl)

of_alu : (op : AluOp) (os : List Operand) → IsFormed (alu_of op) os
of_alu op (Register s ∷ Register r ∷ []) = (refl, λ h. absurd (omega arith))
of_alu op (Memory p ∷ Register r ∷ []) = (refl, λ h. absurd (omega arith))
of_alu op (Register r ∷ Memory p ∷ []) = (refl, λ h. absurd (omega arith))
of_alu op (Register r ∷ Number n ∷ []) = (refl, λ h. absurd (omega arith))
of_alu op (Dword p ∷ Number n ∷ []) = (refl, λ h. absurd (omega arith))
of_alu op _ = (refl, λ _. refl)

of_test : (os : List Operand) → IsFormed test_of os
of_test (Register s ∷ Register r ∷ []) = (refl, λ h. absurd (omega arith))
of_test (Memory p ∷ Register r ∷ []) = (refl, λ h. absurd (omega arith))
of_test _ = (refl, λ _. refl)

of_shift : (op : ShiftOp) (os : List Operand) → IsFormed (shift_of op) os
of_shift op (Register r ∷ Number n ∷ []) = (refl, λ h. absurd (omega arith))
of_shift op (Dword p ∷ Number n ∷ []) = (refl, λ h. absurd (omega arith))
of_shift op _ = (refl, λ _. refl)

of_imul : (os : List Operand) → IsFormed imul_of os
of_imul (Register r ∷ Register s ∷ []) = (refl, λ h. absurd (omega arith))
of_imul (Register r ∷ Memory p ∷ []) = (refl, λ h. absurd (omega arith))
of_imul _ = (refl, λ _. refl)

of_register_alone : (make : (Reg → Ins)) (os : List Operand) → IsFormed (register_alone make) os
of_register_alone make (Register r ∷ []) = (refl, λ h. absurd (omega arith))
of_register_alone make _ = (refl, λ _. refl)

of_push : (os : List Operand) → IsFormed push_of os
of_push (Register r ∷ []) = (refl, λ h. absurd (omega arith))
of_push (Number n ∷ []) = (refl, λ h. absurd (omega arith))
of_push (Label n ∷ []) = (refl, λ h. absurd (omega arith))
of_push _ = (refl, λ _. refl)

of_unary : (op : UnaryOp) (os : List Operand) → IsFormed (unary_of op) os
of_unary op (Register r ∷ []) = (refl, λ h. absurd (omega arith))
of_unary op (Dword p ∷ []) = (refl, λ h. absurd (omega arith))
of_unary op _ = (refl, λ _. refl)

of_branch : (b : Branch) (os : List Operand) → IsFormed (branch_of b) os
of_branch b (Label n ∷ []) = (refl, λ h. absurd (omega arith))
of_branch b (Number n ∷ []) = (refl, λ h. absurd (omega arith))
of_branch b _ = (refl, λ _. refl)

of_int : (os : List Operand) → IsFormed int_of os
of_int (Number n ∷ []) = (refl, λ h. absurd (omega arith))
of_int _ = (refl, λ _. refl)

of_long : (os : List Operand) → IsFormed long_of os
of_long (Number n ∷ []) = (refl, λ h. absurd (omega arith))
of_long _ = (refl, λ _. refl)

of_zero : (os : List Operand) → IsFormed zero_of os
of_zero (Number n ∷ []) = (refl, λ h. absurd (omega arith))
of_zero _ = (refl, λ _. refl)

of_nothing_after : (ins : Ins) (os : List Operand) → IsFormed (nothing_after ins) os
of_nothing_after ins [] = (refl, λ h. absurd (omega arith))
of_nothing_after ins _ = (refl, λ _. refl)

pub of_statement : (mnemonic : Mnemonic) (os : List Operand) → mnemonic ≢ m.Byte
    → IsFormed (statement_of mnemonic) os
of_statement m.Mov os h = of_mov os
of_statement m.Movzx os h = of_movzx os
of_statement m.Lea os h = of_lea os
of_statement (m.Alu op) os h = of_alu op os
of_statement m.Test os h = of_test os
of_statement m.Inc os h = of_register_alone _ os
of_statement m.Dec os h = of_register_alone _ os
of_statement m.Push os h = of_push os
of_statement m.Pop os h = of_register_alone _ os
of_statement (m.Shift op) os h = of_shift op os
of_statement m.Imul os h = of_imul os
of_statement (m.Unary op) os h = of_unary op os
of_statement (m.Branch b) os h = of_branch b os
of_statement m.Ret os h = of_nothing_after _ os
of_statement m.Int os h = of_int os
of_statement m.Nop os h = of_nothing_after _ os
of_statement m.Byte os h = absurd (h refl)
of_statement m.Long os h = of_long os
of_statement m.Zero os h = of_zero os
