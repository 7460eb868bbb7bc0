-- The numbers of registers, operations and conditions in ModRM bytes and opcodes (i386 manuals,
-- "ModR/M and SIB Bytes" and "Opcode Map").
use Rattle.std.specs.Prelude.{ℕ}
use Rattle.i386_profile.specs.declared.operands.Reg.{Reg}
use Rattle.i386_profile.specs.declared.operands.Reg.TheVariants.{Eax, Ecx, Edx, Ebx, Esp, Ebp, Esi, Edi}
use Rattle.i386_profile.specs.declared.operands.ByteReg.{ByteReg}
use Rattle.i386_profile.specs.declared.operands.ByteReg.TheVariants.{Al, Cl, Dl, Bl}
use Rattle.i386_profile.specs.declared.ins.AluOp.{AluOp}
use Rattle.i386_profile.specs.declared.ins.AluOp.TheVariants.{Add, Or, And, Sub, Xor, Cmp}
use Rattle.i386_profile.specs.declared.ins.ShiftOp.{ShiftOp}
use Rattle.i386_profile.specs.declared.ins.ShiftOp.TheVariants.{Shl, Shr, Sar}
use Rattle.i386_profile.specs.declared.ins.UnaryOp.{UnaryOp}
use Rattle.i386_profile.specs.declared.ins.UnaryOp.TheVariants.{Not, Neg, Mul, Div}
use Rattle.i386_profile.specs.declared.ins.Cond.{Cond}
use Rattle.i386_profile.specs.declared.ins.Cond.TheVariants.{O, No, B, Ae, E, Ne, Be, A, S, Ns, L, Ge, Le, G}

-- a general register's number
abbrev pub reg_code : Reg → ℕ
reg_code Eax = 0
reg_code Ecx = 1
reg_code Edx = 2
reg_code Ebx = 3
reg_code Esp = 4
reg_code Ebp = 5
reg_code Esi = 6
reg_code Edi = 7

-- the register that a byte register is the low byte of; the two have one number
abbrev pub whole_of : ByteReg → Reg
whole_of Al = Eax
whole_of Cl = Ecx
whole_of Dl = Edx
whole_of Bl = Ebx

-- the /n of opcodes 81 and 83
abbrev pub alu_code : AluOp → ℕ
alu_code Add = 0
alu_code Or = 1
alu_code And = 4
alu_code Sub = 5
alu_code Xor = 6
alu_code Cmp = 7

-- the opcode of `op rm, r`
abbrev pub alu_opcode : AluOp → ℕ
alu_opcode Add = 0x01
alu_opcode Or = 0x09
alu_opcode And = 0x21
alu_opcode Sub = 0x29
alu_opcode Xor = 0x31
alu_opcode Cmp = 0x39

-- the opcode of `op r, rm`
abbrev pub alu_from_opcode : AluOp → ℕ
alu_from_opcode Add = 0x03
alu_from_opcode Or = 0x0B
alu_from_opcode And = 0x23
alu_from_opcode Sub = 0x2B
alu_from_opcode Xor = 0x33
alu_from_opcode Cmp = 0x3B

-- the /n of opcode C1
abbrev pub shift_code : ShiftOp → ℕ
shift_code Shl = 4
shift_code Shr = 5
shift_code Sar = 7

-- the /n of opcode F7
abbrev pub unary_code : UnaryOp → ℕ
unary_code Not = 2
unary_code Neg = 3
unary_code Mul = 4
unary_code Div = 6

-- the number of a condition, the low half of the opcodes 70 to 7F and 0F 80 to 0F 8F
abbrev pub cond_code : Cond → ℕ
cond_code O = 0
cond_code No = 1
cond_code B = 2
cond_code Ae = 3
cond_code E = 4
cond_code Ne = 5
cond_code Be = 6
cond_code A = 7
cond_code S = 8
cond_code Ns = 9
cond_code L = 12
cond_code Ge = 13
cond_code Le = 14
cond_code G = 15
