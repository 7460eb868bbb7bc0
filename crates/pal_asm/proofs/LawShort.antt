-- A listing of code that fits is shorter than 2^32 bytes: a line has at most 201, and a byte of
-- code at least.
use Rattle.std.proofs.Common.{ℕ, zero, suc, ◌+◌, ◌*◌, ◌-◌, ◌/◌, ◌%◌, ◌≤◌, ◌^◌, Bool, true, false, List, [], ◌∷◌, ◌++◌, length, take, drop, arith, lit≤}
use Rattle.std.specs.Prelude.{◌==◌, codes, decimal, nat_lt, Some, None, Option, if◌then◌else◌}
use Rattle.std.specs.Fmt.{digits, digits_onto, digit_glyph}
use Rattle.std.proofs.lemmas.List.{length-append, length-take-le}
use Rattle.i386_profile.specs.declared.operands.Reg.{Reg}
use Rattle.i386_profile.specs.declared.operands.Reg.TheVariants.{Eax}
use Rattle.i386_profile.specs.declared.operands.ByteReg.{ByteReg}
use Rattle.i386_profile.specs.declared.operands.ByteReg.TheVariants.{Al}
use Rattle.i386_profile.specs.declared.operands.Mem.{Mem}
use Rattle.i386_profile.specs.declared.operands.Rm.{Rm}
use Rattle.i386_profile.specs.declared.operands.Rm.TheVariants as rms
use Rattle.i386_profile.specs.declared.ins.AluOp.TheVariants.{Add}
use Rattle.i386_profile.specs.declared.ins.ShiftOp.TheVariants.{Shl}
use Rattle.i386_profile.specs.declared.ins.UnaryOp.TheVariants.{Not}
use Rattle.i386_profile.specs.declared.ins.Cond.TheVariants.{O}
use Rattle.i386_profile.specs.declared.ins.Ins.{Ins}
use Rattle.i386_profile.specs.declared.ins.Ins.TheVariants.{Load, Put, MovTo, MovFrom, ByteTo, ByteFrom, Widen, WidenReg, Lea, Alu, AluFrom, AluImm, Test, Inc, Dec, Push, Pop, PushImm, Shift, Imul, Unary, Jmp, Jcc, Call, Ret, Gate, Nop}
use Rattle.i386_profile.proofs.Lengths.{bounded}
use Rattle.pal_asm.specs.declared.names.Branch.TheVariants as branch
use Rattle.pal_asm.specs.declared.names.Mnemonic.{Mnemonic}
use Rattle.pal_asm.specs.declared.names.Mnemonic.TheVariants as m
use Rattle.pal_asm.specs.Names.{register_name, byte_register_name, mnemonic_name}
use Rattle.pal_asm.specs.Listing.{displacement_text, place_text, memory_text, rm_text, dword_text, target_text, text0, text1, text2, ins_text, Met, Decoded, Lone, Meets, offset, text_of}
use Rattle.pal_asm.specs.Laws.{ListingIsShort}

-- ---- words and numbers

word_short : (word : Mnemonic) → length (mnemonic_name word) ≤ 5
word_short m.Mov = lit≤ tt
word_short (m.Alu Add) = lit≤ tt
word_short (m.Shift Shl) = lit≤ tt
word_short (m.Unary Not) = lit≤ tt
word_short (m.Branch branch.Jmp) = lit≤ tt
word_short (m.Branch (branch.Jcc O)) = lit≤ tt
word_short _ = lit≤ tt

register_short : (r : Reg) → length (register_name r) ≤ 3
register_short Eax = lit≤ tt
register_short _ = lit≤ tt

byte_register_short : (b : ByteReg) → length (byte_register_name b) ≤ 2
byte_register_short Al = lit≤ tt
byte_register_short _ = lit≤ tt

onto_by : (k base n : ℕ) (upper b : Bool) (acc : List ℕ)
    → length (digits_onto k base upper (n / base) (digit_glyph upper (n % base) ∷ acc))
    ≤ k + (length acc + 1)
    → length (if b then digit_glyph upper (n % base)
    ∷ acc else digits_onto k base upper (n / base) (digit_glyph upper (n % base) ∷ acc))
    ≤ suc k + length acc
onto_by k base n upper true acc h = omega arith
onto_by k base n upper false acc h = omega (arith, h)

onto_short : (k base n : ℕ) (upper : Bool) (acc : List ℕ)
    → length (digits_onto k base upper n acc) ≤ k + length acc
onto_short zero base n upper acc = omega arith
onto_short (suc k) base n upper acc =
    onto_by k base n upper (n / base == 0) acc
    (omega (arith, onto_short k base (n / base) upper (digit_glyph upper (n % base) ∷ acc)))

digits_short : (base n : ℕ) (upper : Bool) → length (digits base upper n) ≤ 64
unfolding digits
digits_short base n upper = omega (arith, onto_short 64 base n upper [])

-- ---- operands

displacement_by : (n : ℕ) (b c : Bool)
    → length (if b then [] else if c then codes "+" ++ decimal n else codes "-"
    ++ decimal (2 ^ 32 - n)) ≤ 65
displacement_by n true c = omega arith
displacement_by n false true = omega (arith, digits_short 10 n false)
displacement_by n false false = omega (arith, digits_short 10 (2 ^ 32 - n) false)

place_short : (base : Option Reg) (d : ℕ) → length (place_text base d) ≤ 68
place_short None d = omega (arith, digits_short 10 d false)
place_short (Some r) d =
    omega (
      arith,
      register_short r,
      displacement_by d (d == 0) (nat_lt d (2 ^ 31)),
      length-append (register_name r) (displacement_text d),
    )

memory_short : (place : Mem) → length (memory_text place) ≤ 70
memory_short place =
    omega (
      arith,
      place_short place.base place.disp,
      length-append (place_text place.base place.disp) (codes "]"),
    )

rm_short : (rm : Rm) → length (rm_text rm) ≤ 76
rm_short (rms.Reg r) = omega (arith, register_short r)
rm_short (rms.Mem place) = omega (arith, memory_short place)

dword_short : (rm : Rm) → length (dword_text rm) ≤ 76
dword_short (rms.Reg r) = omega (arith, register_short r)
dword_short (rms.Mem place) = omega (arith, memory_short place)

target_short : (after rel : ℕ) → length (target_text after rel) ≤ 76
target_short after rel = omega (arith, digits_short 16 ((after + rel) % 2 ^ 32) false)

number_short : (n : ℕ) → length (decimal n) ≤ 76
number_short n = omega (arith, digits_short 10 n false)

memory_within : (place : Mem) → length (memory_text place) ≤ 76
memory_within place = omega (arith, memory_short place)

register_within : (r : Reg) → length (register_name r) ≤ 76
register_within r = omega (arith, register_short r)

byte_register_within : (b : ByteReg) → length (byte_register_name b) ≤ 76
byte_register_within b = omega (arith, byte_register_short b)

-- ---- lines

none : (word : Mnemonic) → length (text0 word) ≤ 200
none word = omega (arith, word_short word)

one : (word : Mnemonic) (a : List ℕ) → length a ≤ 76 → length (text1 word a) ≤ 200
one word a h =
    omega (
      arith,
      word_short word,
      length-append (mnemonic_name word ++ codes " ") a,
      length-append (mnemonic_name word) (codes " "),
    )

two : (word : Mnemonic) (a b : List ℕ) → length a ≤ 76 → length b ≤ 76
    → length (text2 word a b) ≤ 200
two word a b h k =
    omega (
      arith,
      word_short word,
      length-append (mnemonic_name word ++ codes " " ++ a ++ codes ", ") b,
      length-append (mnemonic_name word ++ codes " " ++ a) (codes ", "),
      length-append (mnemonic_name word ++ codes " ") a,
      length-append (mnemonic_name word) (codes " "),
    )

line_short : (after : ℕ) (ins : Ins) → length (ins_text after ins) ≤ 200
line_short after (Load r n) =
    two m.Mov (register_name r) (decimal n) (register_within r) (number_short n)
line_short after (Put place n) =
    two m.Mov (dword_text (rms.Mem place)) (decimal n) (dword_short (rms.Mem place))
    (number_short n)
line_short after (MovTo rm r) =
    two m.Mov (rm_text rm) (register_name r) (rm_short rm) (register_within r)
line_short after (MovFrom r place) =
    two m.Mov (register_name r) (memory_text place) (register_within r) (memory_within place)
line_short after (ByteTo place b) =
    two m.Mov (memory_text place) (byte_register_name b) (memory_within place)
    (byte_register_within b)
line_short after (ByteFrom b place) =
    two m.Mov (byte_register_name b) (memory_text place) (byte_register_within b)
    (memory_within place)
line_short after (Widen r place) =
    two m.Movzx (register_name r) (codes "byte " ++ memory_text place) (register_within r)
    (omega (arith, memory_short place))
line_short after (WidenReg r b) =
    two m.Movzx (register_name r) (byte_register_name b) (register_within r)
    (byte_register_within b)
line_short after (Lea r place) =
    two m.Lea (register_name r) (memory_text place) (register_within r) (memory_within place)
line_short after (Alu op rm r) =
    two (m.Alu op) (rm_text rm) (register_name r) (rm_short rm) (register_within r)
line_short after (AluFrom op r place) =
    two (m.Alu op) (register_name r) (memory_text place) (register_within r) (memory_within place)
line_short after (AluImm op rm n) =
    two (m.Alu op) (dword_text rm) (decimal n) (dword_short rm) (number_short n)
line_short after (Test rm r) =
    two m.Test (rm_text rm) (register_name r) (rm_short rm) (register_within r)
line_short after (Inc r) = one m.Inc (register_name r) (register_within r)
line_short after (Dec r) = one m.Dec (register_name r) (register_within r)
line_short after (Push r) = one m.Push (register_name r) (register_within r)
line_short after (Pop r) = one m.Pop (register_name r) (register_within r)
line_short after (PushImm n) = one m.Push (decimal n) (number_short n)
line_short after (Shift op rm count) =
    two (m.Shift op) (dword_text rm) (decimal count) (dword_short rm) (number_short count)
line_short after (Imul r rm) =
    two m.Imul (register_name r) (rm_text rm) (register_within r) (rm_short rm)
line_short after (Unary op rm) = one (m.Unary op) (dword_text rm) (dword_short rm)
line_short after (Jmp rel) =
    one (m.Branch branch.Jmp) (target_text after rel) (target_short after rel)
line_short after (Jcc c rel) =
    one (m.Branch (branch.Jcc c)) (target_text after rel) (target_short after rel)
line_short after (Call rel) =
    one (m.Branch branch.Call) (target_text after rel) (target_short after rel)
line_short after Ret = none m.Ret
line_short after (Gate n) = one m.Int (decimal n) (number_short n)
line_short after Nop = none m.Nop

-- ---- a listing

text_short : (met : List Met) (at : ℕ) (code : List ℕ) → Meets at met code
    → length (text_of at met) + 201 * at ≤ 201 * length code
text_short [] at code g = omega (arith, g)
text_short (Decoded ins n ∷ met) at code g =
    let b = bounded ins (take n (drop at code)) g.1.1 in
    omega (
      arith,
      b.0,
      length-take-le n (drop at code) g.1.0,
      line_short (offset (at + n)) ins,
      text_short met (at + n) code g.2,
      length-append (ins_text (offset (at + n)) ins ++ codes "\n") (text_of (at + n) met),
      length-append (ins_text (offset (at + n)) ins) (codes "\n"),
    )
text_short (Lone byte ∷ met) at code g =
    omega (
      arith,
      one m.Byte (decimal byte) (number_short byte),
      text_short met (at + 1) code g.3,
      length-append (text1 m.Byte (decimal byte) ++ codes "\n") (text_of (at + 1) met),
      length-append (text1 m.Byte (decimal byte)) (codes "\n"),
    )

pub listing_is_short : ListingIsShort
listing_is_short code met small g = omega (arith, text_short met 0 code g)
