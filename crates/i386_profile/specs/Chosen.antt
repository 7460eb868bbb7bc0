-- The spelling that is written: the first of the table, with the shortest displacement.
use Rattle.std.specs.Prelude.{ℕ, ◌+◌, ◌%◌, ◌&&◌, ◌||◌, not, Bool, List, [], ◌∷◌, ◌++◌, Option, Some, None, if◌then◌else◌, nat_lt, nat_le, ◌==◌}
use Rattle.std.specs.Int.{w32, to_le_bytes}
use Rattle.i386_profile.specs.declared.operands.Reg.{Reg}
use Rattle.i386_profile.specs.declared.operands.Rm.{Rm}
use Rattle.i386_profile.specs.declared.operands.Rm.TheVariants as rms
use Rattle.i386_profile.specs.declared.ins.Ins.{Ins}
use Rattle.i386_profile.specs.declared.ins.Ins.TheVariants.{Load, Put, MovTo, MovFrom, ByteTo, ByteFrom, Widen, WidenReg, Lea, Alu, AluFrom, AluImm, Test, Inc, Dec, Push, Pop, PushImm, Shift, Imul, Unary, Jmp, Jcc, Call, Ret, Gate, Nop}
use Rattle.i386_profile.specs.Codes.{whole_of, reg_code, alu_code, alu_opcode, alu_from_opcode, shift_code, unary_code, cond_code}
use Rattle.i386_profile.specs.Spelling.{modrm, modrm_base, one_byte, two_byte}

-- four bytes, little-endian
abbrev pub doubleword : ℕ → List ℕ
doubleword n = to_le_bytes w32 n

-- the low byte
abbrev pub low_byte : ℕ → List ℕ
low_byte n = n % 256 ∷ []

-- -128 to 127, modulo 2^32
abbrev pub is_signed_byte : ℕ → Bool
is_signed_byte n = nat_lt n 0x80 || nat_le 0xFFFFFF80 n

-- no displacement where it is 0 and the base is not ebp, else disp8 where it fits, else disp32
abbrev pub chosen_memory : ℕ → Option Reg → ℕ → List ℕ
chosen_memory reg None disp = modrm 0 reg 5 ∷ doubleword disp
chosen_memory reg (Some base) disp =
    if disp == 0 && not (reg_code base == 5) then modrm_base 0 reg base
    else if is_signed_byte disp then modrm_base 1 reg base ++ low_byte disp
    else modrm_base 2 reg base ++ doubleword disp

-- an operand with reg in its ModRM byte
abbrev pub chosen_rm : ℕ → Rm → List ℕ
chosen_rm reg (rms.Reg r) = modrm 3 reg (reg_code r) ∷ []
chosen_rm reg (rms.Mem m) = chosen_memory reg m.base m.disp

-- the sign-extended byte where it fits
abbrev pub chosen_alu_imm : ℕ → Rm → ℕ → List ℕ
chosen_alu_imm code rm n =
    if is_signed_byte n then one_byte 0x83 ++ chosen_rm code rm ++ low_byte n
    else one_byte 0x81 ++ chosen_rm code rm ++ doubleword n

-- the table
abbrev pub chosen : Ins → List ℕ
chosen (Load r n) = one_byte (0xB8 + reg_code r) ++ doubleword n
chosen (Put m n) = one_byte 0xC7 ++ chosen_rm 0 (rms.Mem m) ++ doubleword n
chosen (MovTo rm r) = one_byte 0x89 ++ chosen_rm (reg_code r) rm
chosen (MovFrom r m) = one_byte 0x8B ++ chosen_rm (reg_code r) (rms.Mem m)
chosen (ByteTo m b) = one_byte 0x88 ++ chosen_rm (reg_code (whole_of b)) (rms.Mem m)
chosen (ByteFrom b m) = one_byte 0x8A ++ chosen_rm (reg_code (whole_of b)) (rms.Mem m)
chosen (Widen r m) = two_byte 0xB6 ++ chosen_rm (reg_code r) (rms.Mem m)
chosen (WidenReg r b) = two_byte 0xB6 ++ chosen_rm (reg_code r) (rms.Reg (whole_of b))
chosen (Lea r m) = one_byte 0x8D ++ chosen_rm (reg_code r) (rms.Mem m)
chosen (Alu op rm r) = one_byte (alu_opcode op) ++ chosen_rm (reg_code r) rm
chosen (AluFrom op r m) = one_byte (alu_from_opcode op) ++ chosen_rm (reg_code r) (rms.Mem m)
chosen (AluImm op rm n) = chosen_alu_imm (alu_code op) rm n
chosen (Test rm r) = one_byte 0x85 ++ chosen_rm (reg_code r) rm
chosen (Inc r) = one_byte (0x40 + reg_code r)
chosen (Dec r) = one_byte (0x48 + reg_code r)
chosen (Push r) = one_byte (0x50 + reg_code r)
chosen (Pop r) = one_byte (0x58 + reg_code r)
chosen (PushImm n) = one_byte 0x68 ++ doubleword n
chosen (Shift op rm count) = one_byte 0xC1 ++ chosen_rm (shift_code op) rm ++ count ∷ []
chosen (Imul r rm) = two_byte 0xAF ++ chosen_rm (reg_code r) rm
chosen (Unary op rm) = one_byte 0xF7 ++ chosen_rm (unary_code op) rm
chosen (Jmp rel) = one_byte 0xE9 ++ doubleword rel
chosen (Jcc c rel) = two_byte (0x80 + cond_code c) ++ doubleword rel
chosen (Call rel) = one_byte 0xE8 ++ doubleword rel
chosen Ret = one_byte 0xC3
chosen (Gate n) = one_byte 0xCD ++ n ∷ []
chosen Nop = one_byte 0x90
