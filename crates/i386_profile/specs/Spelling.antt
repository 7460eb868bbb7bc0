-- Which bytes spell an instruction, a case for each instruction of the profile (i386 manuals,
-- "Instruction Format").
use Rattle.std.specs.Prelude.{◌≡◌, ◌≢◌, ℕ, ◌+◌, ◌*◌, ◌<◌, ◌≤◌, ◌^◌, ◌⊎◌, length, take, List, [], ◌∷◌, ◌++◌, Option, Some, None, if◌then◌else◌, nat_lt}
use Rattle.std.specs.Int.{w32, to_le_bytes}
use Rattle.i386_profile.specs.declared.operands.Reg.{Reg}
use Rattle.i386_profile.specs.declared.operands.Reg.TheVariants.{Esp, Ebp}
use Rattle.i386_profile.specs.declared.operands.Rm.{Rm}
use Rattle.i386_profile.specs.declared.operands.Rm.TheVariants as rms
use Rattle.i386_profile.specs.declared.ins.Ins.{Ins}
use Rattle.i386_profile.specs.declared.ins.Ins.TheVariants.{Load, Put, MovTo, MovFrom, ByteTo, ByteFrom, Widen, WidenReg, Lea, Alu, AluFrom, AluImm, Test, Inc, Dec, Push, Pop, PushImm, Shift, Imul, Unary, Jmp, Jcc, Call, Ret, Gate, Nop}
use Rattle.i386_profile.specs.Codes.{whole_of, reg_code, alu_code, alu_opcode, alu_from_opcode, shift_code, unary_code, cond_code}

-- ---- numbers after an opcode

-- imm32, disp32, rel32: four bytes, little-endian
abbrev pub IsDoubleword : ℕ → List ℕ → Type 0
IsDoubleword n bytes = (n < 2 ^ 32) × (bytes ≡ to_le_bytes w32 n)

-- imm8: one byte
abbrev pub IsByte : ℕ → List ℕ → Type 0
IsByte n bytes = (n < 256) × (bytes ≡ n ∷ [])

-- a byte as a signed number, modulo 2^32
abbrev pub sign_extended : ℕ → ℕ
sign_extended byte = if nat_lt byte 0x80 then byte else byte + 0xFFFFFF00

-- imm8, disp8, rel8 for a number of 32 bits: one byte that is sign-extended
abbrev pub IsSignedByte : ℕ → List ℕ → Type 0
IsSignedByte n bytes = (byte : ℕ) × (byte < 256) × (n ≡ sign_extended byte) × (bytes ≡ byte ∷ [])

-- ---- operands

-- ModRM: mod in its two high bits, reg in the three below, rm in the three low bits
unfoldable pub modrm : ℕ → ℕ → ℕ → ℕ
modrm mode reg rm = 64 * mode + 8 * reg + rm

-- ModRM with a base in rm. 100 in rm says that a SIB byte follows: of the SIB bytes, 24 is base
-- esp, no index.
abbrev pub modrm_base : ℕ → ℕ → Reg → List ℕ
modrm_base mode reg Esp = modrm mode reg 4 ∷ 0x24 ∷ []
modrm_base mode reg base = modrm mode reg (reg_code base) ∷ []

-- the displacement that mod announces: none for 00, a form that ebp does not have, disp8 for 01,
-- disp32 for 10
abbrev pub IsDisplacement : ℕ → Reg → ℕ → List ℕ → Type 0
IsDisplacement mode base disp bytes =
    ((mode ≡ 0) × (base ≢ Ebp) × (disp ≡ 0) × (bytes ≡ []))
    ⊎ ((mode ≡ 1) × IsSignedByte disp bytes)
    ⊎ ((mode ≡ 2) × IsDoubleword disp bytes)

-- an address with reg in its ModRM byte; mod 00 with rm 101 is a disp32 without a base
abbrev pub SpellsMemory : ℕ → Option Reg → ℕ → List ℕ → Type 0
SpellsMemory reg None disp bytes = (d : List ℕ) × IsDoubleword disp d × (bytes ≡ modrm 0 reg 5 ∷ d)
SpellsMemory reg (Some base) disp bytes =
    (mode : ℕ) × (d : List ℕ) × IsDisplacement mode base disp d
    × (bytes ≡ modrm_base mode reg base ++ d)

-- an operand with reg in its ModRM byte; mod 11 is a register
abbrev pub SpellsRm : ℕ → Rm → List ℕ → Type 0
SpellsRm reg (rms.Reg r) bytes = bytes ≡ modrm 3 reg (reg_code r) ∷ []
SpellsRm reg (rms.Mem m) bytes = SpellsMemory reg m.base m.disp bytes

-- ---- an opcode and what follows it

-- an opcode of one byte
abbrev pub one_byte : ℕ → List ℕ
one_byte opcode = opcode ∷ []

-- an opcode of two bytes, the first the escape 0F
abbrev pub two_byte : ℕ → List ℕ
two_byte opcode = 0x0F ∷ opcode ∷ []

-- an opcode and an immediate number
abbrev pub HasImmediate : (ℕ → List ℕ → Type 0) → List ℕ → ℕ → List ℕ → Type 0
HasImmediate IsNumber opcode n bytes = (i : List ℕ) × IsNumber n i × (bytes ≡ opcode ++ i)

-- /r and /n: an opcode and an operand, with a register's number or n in reg
abbrev pub HasOperand : List ℕ → ℕ → Rm → List ℕ → Type 0
HasOperand opcode reg rm bytes = (o : List ℕ) × SpellsRm reg rm o × (bytes ≡ opcode ++ o)

-- the same, and an immediate number
abbrev pub HasOperandImmediate : (ℕ → List ℕ → Type 0) → List ℕ → ℕ → Rm → ℕ → List ℕ → Type 0
HasOperandImmediate IsNumber opcode reg rm n bytes =
    (o : List ℕ) × (i : List ℕ) × SpellsRm reg rm o × IsNumber n i × (bytes ≡ opcode ++ o ++ i)

-- `op r, rm` for `op rm, r` of two registers: rm stands in reg, and r in rm
abbrev pub HasExchanged : List ℕ → Rm → Reg → List ℕ → Type 0
HasExchanged opcode (rms.Reg s) r bytes = HasOperand opcode (reg_code s) (rms.Reg r) bytes
HasExchanged opcode (rms.Mem m) r bytes = ⊥

-- ---- the table

-- The bytes spell the instruction.
abbrev pub Spells : Ins → List ℕ → Type 0
Spells (Load r n) bytes =
    HasImmediate IsDoubleword (one_byte (0xB8 + reg_code r)) n bytes
    ⊎ HasOperandImmediate IsDoubleword (one_byte 0xC7) 0 (rms.Reg r) n bytes
Spells (Put m n) bytes = HasOperandImmediate IsDoubleword (one_byte 0xC7) 0 (rms.Mem m) n bytes
Spells (MovTo rm r) bytes =
    HasOperand (one_byte 0x89) (reg_code r) rm bytes
    ⊎ HasExchanged (one_byte 0x8B) rm r bytes
Spells (MovFrom r m) bytes = HasOperand (one_byte 0x8B) (reg_code r) (rms.Mem m) bytes
Spells (ByteTo m b) bytes = HasOperand (one_byte 0x88) (reg_code (whole_of b)) (rms.Mem m) bytes
Spells (ByteFrom b m) bytes = HasOperand (one_byte 0x8A) (reg_code (whole_of b)) (rms.Mem m) bytes
Spells (Widen r m) bytes = HasOperand (two_byte 0xB6) (reg_code r) (rms.Mem m) bytes
Spells (WidenReg r b) bytes = HasOperand (two_byte 0xB6) (reg_code r) (rms.Reg (whole_of b)) bytes
Spells (Lea r m) bytes = HasOperand (one_byte 0x8D) (reg_code r) (rms.Mem m) bytes
Spells (Alu op rm r) bytes =
    HasOperand (one_byte (alu_opcode op)) (reg_code r) rm bytes
    ⊎ HasExchanged (one_byte (alu_from_opcode op)) rm r bytes
Spells (AluFrom op r m) bytes =
    HasOperand (one_byte (alu_from_opcode op)) (reg_code r) (rms.Mem m) bytes
Spells (AluImm op rm n) bytes =
    HasOperandImmediate IsSignedByte (one_byte 0x83) (alu_code op) rm n bytes
    ⊎ HasOperandImmediate IsDoubleword (one_byte 0x81) (alu_code op) rm n bytes
Spells (Test rm r) bytes = HasOperand (one_byte 0x85) (reg_code r) rm bytes
Spells (Inc r) bytes = bytes ≡ one_byte (0x40 + reg_code r)
Spells (Dec r) bytes = bytes ≡ one_byte (0x48 + reg_code r)
Spells (Push r) bytes = bytes ≡ one_byte (0x50 + reg_code r)
Spells (Pop r) bytes = bytes ≡ one_byte (0x58 + reg_code r)
Spells (PushImm n) bytes = HasImmediate IsDoubleword (one_byte 0x68) n bytes
Spells (Shift op rm count) bytes =
    HasOperandImmediate IsByte (one_byte 0xC1) (shift_code op) rm count bytes
Spells (Imul r rm) bytes = HasOperand (two_byte 0xAF) (reg_code r) rm bytes
Spells (Unary op rm) bytes = HasOperand (one_byte 0xF7) (unary_code op) rm bytes
Spells (Jmp rel) bytes =
    HasImmediate IsDoubleword (one_byte 0xE9) rel bytes
    ⊎ HasImmediate IsSignedByte (one_byte 0xEB) rel bytes
Spells (Jcc c rel) bytes =
    HasImmediate IsDoubleword (two_byte (0x80 + cond_code c)) rel bytes
    ⊎ HasImmediate IsSignedByte (one_byte (0x70 + cond_code c)) rel bytes
Spells (Call rel) bytes = HasImmediate IsDoubleword (one_byte 0xE8) rel bytes
Spells Ret bytes = bytes ≡ one_byte 0xC3
Spells (Gate n) bytes = HasImmediate IsByte (one_byte 0xCD) n bytes
Spells Nop bytes = bytes ≡ one_byte 0x90

-- The first n bytes spell the instruction.
abbrev pub Begins : Ins → ℕ → List ℕ → Type 0
Begins ins n bytes = (n ≤ length bytes) × Spells ins (take n bytes)

-- No prefix of the bytes spells an instruction.
abbrev pub NoneBegins : List ℕ → Type 0
NoneBegins bytes = (ins : Ins) (n : ℕ) → ¬ Begins ins n bytes
