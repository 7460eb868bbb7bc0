-- The listing of code: its text, and which statements it has.
use Rattle.std.specs.Prelude.{◌≡◌, ◌⊎◌, ℕ, ◌+◌, ◌-◌, ◌%◌, ◌^◌, ◌<◌, nat_lt, ◌==◌, false, List, [], ◌∷◌, ◌++◌, length, take, drop, slice_index, codes, decimal, Option, Some, None, if◌then◌else◌}
use Rattle.std.specs.Fmt.{digits}
use Rattle.i386_profile.specs.declared.operands.Reg.{Reg}
use Rattle.i386_profile.specs.declared.operands.Mem.{Mem}
use Rattle.i386_profile.specs.declared.operands.Rm.{Rm}
use Rattle.i386_profile.specs.declared.operands.Rm.TheVariants as rms
use Rattle.i386_profile.specs.declared.ins.Ins.{Ins}
use Rattle.i386_profile.specs.declared.ins.Ins.TheVariants.{Load, Put, MovTo, MovFrom, ByteTo, ByteFrom, Widen, WidenReg, Lea, Alu, AluFrom, AluImm, Test, Inc, Dec, Push, Pop, PushImm, Shift, Imul, Unary, Jmp, Jcc, Call, Ret, Gate, Nop}
use Rattle.i386_profile.specs.Spelling.{Begins, NoneBegins}
use Rattle.i386_profile.specs.Chosen.{chosen}
use Rattle.pal_asm.specs.declared.names.Branch.TheVariants as branch
use Rattle.pal_asm.specs.declared.names.Mnemonic.{Mnemonic}
use Rattle.pal_asm.specs.declared.names.Mnemonic.TheVariants as m
use Rattle.pal_asm.specs.Names.{register_name, byte_register_name, mnemonic_name}
use Rattle.pal_asm.specs.Assembling.{code_start}

-- ---- operands

-- a displacement as a signed number, missing where it is 0
abbrev pub displacement_text : ℕ → List ℕ
displacement_text d =
    if d == 0 then []
    else if nat_lt d (2 ^ 31) then codes "+" ++ decimal d
    else codes "-" ++ decimal (2 ^ 32 - d)

-- what stands between the brackets
abbrev pub place_text : Option Reg → ℕ → List ℕ
place_text None d = decimal d
place_text (Some r) d = register_name r ++ displacement_text d

abbrev pub memory_text : Mem → List ℕ
memory_text place = codes "[" ++ place_text place.base place.disp ++ codes "]"

-- a register or a place in memory
abbrev pub rm_text : Rm → List ℕ
rm_text (rms.Reg r) = register_name r
rm_text (rms.Mem place) = memory_text place

-- the same where the size of a place is said
abbrev pub dword_text : Rm → List ℕ
dword_text (rms.Reg r) = register_name r
dword_text (rms.Mem place) = codes "dword " ++ memory_text place

-- a target, by the offset after the instruction and the distance
abbrev pub target_text : ℕ → ℕ → List ℕ
target_text after rel = codes "0x" ++ digits 16 false ((after + rel) % 2 ^ 32)

-- ---- statements

-- a statement with no operand, with one, and with two
abbrev pub text0 : Mnemonic → List ℕ
text0 word = mnemonic_name word

abbrev pub text1 : Mnemonic → List ℕ → List ℕ
text1 word a = mnemonic_name word ++ codes " " ++ a

abbrev pub text2 : Mnemonic → List ℕ → List ℕ → List ℕ
text2 word a b = mnemonic_name word ++ codes " " ++ a ++ codes ", " ++ b

-- an instruction, before this offset
abbrev pub ins_text : ℕ → Ins → List ℕ
ins_text after (Load r n) = text2 m.Mov (register_name r) (decimal n)
ins_text after (Put place n) = text2 m.Mov (dword_text (rms.Mem place)) (decimal n)
ins_text after (MovTo rm r) = text2 m.Mov (rm_text rm) (register_name r)
ins_text after (MovFrom r place) = text2 m.Mov (register_name r) (memory_text place)
ins_text after (ByteTo place b) = text2 m.Mov (memory_text place) (byte_register_name b)
ins_text after (ByteFrom b place) = text2 m.Mov (byte_register_name b) (memory_text place)
ins_text after (Widen r place) =
    text2 m.Movzx (register_name r) (codes "byte " ++ memory_text place)
ins_text after (WidenReg r b) = text2 m.Movzx (register_name r) (byte_register_name b)
ins_text after (Lea r place) = text2 m.Lea (register_name r) (memory_text place)
ins_text after (Alu op rm r) = text2 (m.Alu op) (rm_text rm) (register_name r)
ins_text after (AluFrom op r place) = text2 (m.Alu op) (register_name r) (memory_text place)
ins_text after (AluImm op rm n) = text2 (m.Alu op) (dword_text rm) (decimal n)
ins_text after (Test rm r) = text2 m.Test (rm_text rm) (register_name r)
ins_text after (Inc r) = text1 m.Inc (register_name r)
ins_text after (Dec r) = text1 m.Dec (register_name r)
ins_text after (Push r) = text1 m.Push (register_name r)
ins_text after (Pop r) = text1 m.Pop (register_name r)
ins_text after (PushImm n) = text1 m.Push (decimal n)
ins_text after (Shift op rm count) = text2 (m.Shift op) (dword_text rm) (decimal count)
ins_text after (Imul r rm) = text2 m.Imul (register_name r) (rm_text rm)
ins_text after (Unary op rm) = text1 (m.Unary op) (dword_text rm)
ins_text after (Jmp rel) = text1 (m.Branch branch.Jmp) (target_text after rel)
ins_text after (Jcc c rel) = text1 (m.Branch (branch.Jcc c)) (target_text after rel)
ins_text after (Call rel) = text1 (m.Branch branch.Call) (target_text after rel)
ins_text after Ret = text0 m.Ret
ins_text after (Gate n) = text1 m.Int (decimal n)
ins_text after Nop = text0 m.Nop

-- ---- code

-- what a listing meets: an instruction of so many bytes, or a byte where none begins
pub data Met : Type 0 where
  Decoded : (ins : Ins) → (n : ℕ) → Met
  Lone : (byte : ℕ) → Met

-- The code from an offset on consists of these, one after the other.
abbrev pub Meets : ℕ → List Met → List ℕ → Type 0
Meets at [] code = at ≡ length code
Meets at (Decoded ins n ∷ rest) code =
    (at < length code) × Begins ins n (drop at code) × Meets (at + n) rest code
Meets at (Lone byte ∷ rest) code =
    (at < length code) × NoneBegins (drop at code) × (byte ≡ slice_index code at)
    × Meets (at + 1) rest code

-- the offset in the segment of a position in the code, modulo 2 ^ 32
abbrev pub offset : ℕ → ℕ
offset position = (code_start + position) % 2 ^ 32

-- the listing of these, a line each
abbrev pub text_of : ℕ → List Met → List ℕ
text_of at [] = []
text_of at (Decoded ins n ∷ rest) =
    ins_text (offset (at + n)) ins ++ codes "\n" ++ text_of (at + n) rest
text_of at (Lone byte ∷ rest) = text1 m.Byte (decimal byte) ++ codes "\n" ++ text_of (at + 1) rest

-- The text lists the code.
abbrev pub Lists : List ℕ → List ℕ → Type 0
Lists code text = (met : List Met) × Meets 0 met code × (text ≡ text_of 0 met)

-- each instruction stands in its chosen spelling
abbrev pub AreChosen : ℕ → List Met → List ℕ → Type 0
AreChosen at [] code = Unit {0}
AreChosen at (Decoded ins n ∷ rest) code =
    (take n (drop at code) ≡ chosen ins) × AreChosen (at + n) rest code
AreChosen at (Lone byte ∷ rest) code = AreChosen (at + 1) rest code

-- The line of the statement of n bytes at an offset was put after a text.
abbrev pub Puts : ℕ → ℕ → List ℕ → List ℕ → List ℕ → Type 0
Puts at n code old new =
    ((ins : Ins) × Begins ins n (drop at code)
    × (new ≡ old ++ ins_text (offset (at + n)) ins ++ codes "\n"))
    ⊎ ((n ≡ 1) × NoneBegins (drop at code)
    × (new ≡ old ++ text1 m.Byte (decimal (slice_index code at)) ++ codes "\n"))
