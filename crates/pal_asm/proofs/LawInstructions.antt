-- Each instruction's text is read as operands that stand for its chosen spelling.
use Rattle.std.proofs.Common.{◌≡◌, ℕ, ◌+◌, ◌-◌, ◌%◌, ◌^◌, ◌<◌, true, List, [], ◌∷◌, ◌++◌, length, refl, ap, ◌∙◌, arith, pos, negsuc}
use Rattle.std.specs.Prelude.{codes, decimal, Some}
use Rattle.i386_profile.specs.declared.operands.Reg.{Reg}
use Rattle.i386_profile.specs.declared.operands.ByteReg.{ByteReg}
use Rattle.i386_profile.specs.declared.operands.Mem.{Mem}
use Rattle.i386_profile.specs.declared.operands.Rm.TheVariants as rms
use Rattle.i386_profile.specs.declared.ins.Ins.{Ins}
use Rattle.i386_profile.specs.declared.ins.Ins.TheVariants.{Load, Put, MovTo, MovFrom, ByteTo, ByteFrom, Widen, WidenReg, Lea, Alu, AluFrom, AluImm, Test, Inc, Dec, Push, Pop, PushImm, Shift, Imul, Unary, Jmp, Jcc, Call, Ret, Gate, Nop}
use Rattle.i386_profile.specs.Chosen.{chosen}
use Rattle.i386_profile.specs.Laws.{IsInRange}
use Rattle.pal_asm.specs.declared.names.Branch.{Branch}
use Rattle.pal_asm.specs.declared.names.Branch.TheVariants as branch
use Rattle.pal_asm.specs.declared.names.Mnemonic.{Mnemonic}
use Rattle.pal_asm.specs.declared.names.Mnemonic.TheVariants as m
use Rattle.pal_asm.specs.declared.operand.Place.{Place}
use Rattle.pal_asm.specs.declared.operand.Operand.{Operand}
use Rattle.pal_asm.specs.declared.operand.Operand.TheVariants.{Register, ByteRegister, Number, Memory, Dword, Byte}
use Rattle.pal_asm.specs.Names.{register_name, byte_register_name}
use Rattle.pal_asm.specs.Numbers.{low32, low8}
use Rattle.pal_asm.specs.Operands.{is_in_range}
use Rattle.pal_asm.specs.Statements.{Whole, memory, statement_of, least_number, most_number, branch_by}
use Rattle.pal_asm.specs.Listing.{memory_text, target_text, text0, text1, text2, ins_text}
use Rattle.pal_asm.proofs.LawPlaces.{reads_place}
use Rattle.pal_asm.proofs.LawOperands.{Reads, reads_register, reads_byte_register, reads_number, reads_offset, reads_memory, reads_dword, reads_byte}
use Rattle.pal_asm.proofs.LawForms.{Makes, makes_whole, makes_jump, one_in_range, two_in_range, number_in_range, count_in_range}
use Rattle.pal_asm.proofs.LawStatements.{Spoken, no_operand, one_operand, two_operands}

-- The text at an offset stands for the bytes.
pub record StandsFor (at : ℕ) (text bytes : List ℕ) : Type 0 where
  pub word : Mnemonic
  pub operands : List Operand
  pub spoken : Spoken text word operands
  pub makes : Makes at word operands bytes

-- ---- with no operand, with one, and with two

with_none : (at : ℕ) (word : Mnemonic) (ins : Ins) → statement_of word [] ≡ Some (Whole ins)
    → StandsFor at (text0 word) (chosen ins)
with_none at word ins e =
    record {
      word = word;
      operands = [];
      spoken = no_operand word;
      makes =
          makes_whole at word [] ins e refl;
    }

with_one : (at : ℕ) (word : Mnemonic) (a : List ℕ) (o : Operand) (ins : Ins) → Reads a o
    → statement_of word (o ∷ []) ≡ Some (Whole ins)
    → is_in_range (least_number word) (most_number word) o ≡ true
    → StandsFor at (text1 word a) (chosen ins)
with_one at word a o ins r e i =
    record {
      word = word;
      operands = o ∷ [];
      spoken = one_operand word a o r;
      makes = makes_whole at word (o ∷ []) ins e
          (one_in_range (least_number word) (most_number word) o i);
    }

with_two : (at : ℕ) (word : Mnemonic) (a b : List ℕ) (o p : Operand) (ins : Ins) → Reads a o
    → Reads b p → statement_of word (o ∷ p ∷ []) ≡ Some (Whole ins)
    → is_in_range (least_number word) (most_number word) o ≡ true
    → is_in_range (least_number word) (most_number word) p ≡ true
    → StandsFor at (text2 word a b) (chosen ins)
with_two at word a b o p ins r s e i j =
    record {
      word = word;
      operands = o ∷ p ∷ [];
      spoken = two_operands word a b o p r s;
      makes = makes_whole at word (o ∷ p ∷ []) ins e
          (two_in_range (least_number word) (most_number word) o p i j);
    }

-- ---- the kinds of operands

two_registers : (at : ℕ) (word : Mnemonic) (s r : Reg) (ins : Ins)
    → statement_of word (Register s ∷ Register r ∷ []) ≡ Some (Whole ins)
    → StandsFor at (text2 word (register_name s) (register_name r)) (chosen ins)
two_registers at word s r ins e =
    with_two at word (register_name s) (register_name r) (Register s) (Register r) ins
    (reads_register s) (reads_register r) e refl refl

one_register : (at : ℕ) (word : Mnemonic) (r : Reg) (ins : Ins)
    → statement_of word (Register r ∷ []) ≡ Some (Whole ins)
    → StandsFor at (text1 word (register_name r)) (chosen ins)
one_register at word r ins e =
    with_one at word (register_name r) (Register r) ins (reads_register r) e refl

-- a place and a register, where the place's operand makes an instruction of it
place_register : (at : ℕ) (word : Mnemonic) (place : Mem) (r : Reg) (make : Mem → Ins)
    → place.disp < 2 ^ 32
    → ((x : Place) → statement_of word (Memory x ∷ Register r ∷ [])
    ≡ Some (Whole (make (memory x))))
    → StandsFor at (text2 word (memory_text place) (register_name r)) (chosen (make place))
place_register at word place r make lt e =
    let p = reads_place place.base place.disp lt in
    with_two at word (memory_text place) (register_name r) (Memory p.place) (Register r)
    (make place) (reads_memory place p) (reads_register r)
    (e p.place ∙ ap (λ x. Some (Whole (make x))) p.same) p.in_range refl

register_place : (at : ℕ) (word : Mnemonic) (r : Reg) (place : Mem) (make : Mem → Ins)
    → place.disp < 2 ^ 32
    → ((x : Place) → statement_of word (Register r ∷ Memory x ∷ [])
    ≡ Some (Whole (make (memory x))))
    → StandsFor at (text2 word (register_name r) (memory_text place)) (chosen (make place))
register_place at word r place make lt e =
    let p = reads_place place.base place.disp lt in
    with_two at word (register_name r) (memory_text place) (Register r) (Memory p.place)
    (make place) (reads_register r) (reads_memory place p)
    (e p.place ∙ ap (λ x. Some (Whole (make x))) p.same) refl p.in_range

register_number : (at : ℕ) (word : Mnemonic) (r : Reg) (n : ℕ) (ins : Ins) → n < 2 ^ 32
    → statement_of word (Register r ∷ Number (pos n) ∷ []) ≡ Some (Whole ins)
    → is_in_range (least_number word) (most_number word) (Number (pos n)) ≡ true
    → StandsFor at (text2 word (register_name r) (decimal n)) (chosen ins)
register_number at word r n ins lt e i =
    with_two at word (register_name r) (decimal n) (Register r) (Number (pos n)) ins
    (reads_register r) (reads_number n lt) e refl i

place_number : (at : ℕ) (word : Mnemonic) (place : Mem) (n : ℕ) (make : Mem → Ins)
    → place.disp < 2 ^ 32 → n < 2 ^ 32
    → ((x : Place) → statement_of word (Dword x ∷ Number (pos n) ∷ [])
    ≡ Some (Whole (make (memory x))))
    → is_in_range (least_number word) (most_number word) (Number (pos n)) ≡ true
    → StandsFor at (text2 word (codes "dword " ++ memory_text place) (decimal n))
    (chosen (make place))
place_number at word place n make d lt e i =
    let p = reads_place place.base place.disp d in
    with_two at word (codes "dword " ++ memory_text place) (decimal n) (Dword p.place)
    (Number (pos n)) (make place) (reads_dword place p) (reads_number n lt)
    (e p.place ∙ ap (λ x. Some (Whole (make x))) p.same) p.in_range i

place_alone : (at : ℕ) (word : Mnemonic) (place : Mem) (make : Mem → Ins) → place.disp < 2 ^ 32
    → ((x : Place) → statement_of word (Dword x ∷ []) ≡ Some (Whole (make (memory x))))
    → StandsFor at (text1 word (codes "dword " ++ memory_text place)) (chosen (make place))
place_alone at word place make d e =
    let p = reads_place place.base place.disp d in
    with_one at word (codes "dword " ++ memory_text place) (Dword p.place) (make place)
    (reads_dword place p) (e p.place ∙ ap (λ x. Some (Whole (make x))) p.same) p.in_range

number_alone : (at : ℕ) (word : Mnemonic) (n : ℕ) (ins : Ins) → n < 2 ^ 32
    → statement_of word (Number (pos n) ∷ []) ≡ Some (Whole ins)
    → is_in_range (least_number word) (most_number word) (Number (pos n)) ≡ true
    → StandsFor at (text1 word (decimal n)) (chosen ins)
number_alone at word n ins lt e i =
    with_one at word (decimal n) (Number (pos n)) ins (reads_number n lt) e i

jump : (at after rel : ℕ) (b : Branch) → rel < 2 ^ 32
    → after ≡ at + length (chosen (branch_by b rel))
    → StandsFor at (text1 (m.Branch b) (target_text (after % 2 ^ 32) rel))
    (chosen (branch_by b rel))
jump at after rel b lt e =
    let to = (after % 2 ^ 32 + rel) % 2 ^ 32 in
    record {
      word = m.Branch b;
      operands = Number (pos to) ∷ [];
      spoken = one_operand (m.Branch b) (target_text (after % 2 ^ 32) rel) (Number (pos to))
          (reads_offset to (omega arith));
      makes = makes_jump at after rel b lt e;
    }

-- ---- bytes

place_byte : (at : ℕ) (place : Mem) (b : ByteReg) → place.disp < 2 ^ 32
    → StandsFor at (text2 m.Mov (memory_text place) (byte_register_name b))
    (chosen (ByteTo place b))
place_byte at place b lt =
    let p = reads_place place.base place.disp lt in
    with_two at m.Mov (memory_text place) (byte_register_name b) (Memory p.place) (ByteRegister b)
    (ByteTo place b) (reads_memory place p) (reads_byte_register b)
    (ap (λ x. Some (Whole (ByteTo x b))) p.same) p.in_range refl

byte_place : (at : ℕ) (b : ByteReg) (place : Mem) → place.disp < 2 ^ 32
    → StandsFor at (text2 m.Mov (byte_register_name b) (memory_text place))
    (chosen (ByteFrom b place))
byte_place at b place lt =
    let p = reads_place place.base place.disp lt in
    with_two at m.Mov (byte_register_name b) (memory_text place) (ByteRegister b) (Memory p.place)
    (ByteFrom b place) (reads_byte_register b) (reads_memory place p)
    (ap (λ x. Some (Whole (ByteFrom b x))) p.same) refl p.in_range

widened : (at : ℕ) (r : Reg) (place : Mem) → place.disp < 2 ^ 32
    → StandsFor at (text2 m.Movzx (register_name r) (codes "byte " ++ memory_text place))
    (chosen (Widen r place))
widened at r place lt =
    let p = reads_place place.base place.disp lt in
    with_two at m.Movzx (register_name r) (codes "byte " ++ memory_text place) (Register r)
    (Byte p.place) (Widen r place) (reads_register r) (reads_byte place p)
    (ap (λ x. Some (Whole (Widen r x))) p.same) refl p.in_range

widened_register : (at : ℕ) (r : Reg) (b : ByteReg)
    → StandsFor at (text2 m.Movzx (register_name r) (byte_register_name b)) (chosen (WidenReg r b))
widened_register at r b =
    with_two at m.Movzx (register_name r) (byte_register_name b) (Register r) (ByteRegister b)
    (WidenReg r b) (reads_register r) (reads_byte_register b) refl refl refl

-- ---- the table

same32 : (n : ℕ) → n < 2 ^ 32 → low32 (pos n) ≡ n
same32 n lt = omega arith

same8 : (n : ℕ) → n < 2 ^ 8 → low8 (pos n) ≡ n
same8 n lt = omega arith

-- a number of 32 bits may stand where words of 32 bits do
fits32 : (n : ℕ) → n < 2 ^ 32
    → is_in_range (negsuc (2 ^ 31 - 1)) (pos (2 ^ 32 - 1)) (Number (pos n)) ≡ true
fits32 n lt = number_in_range (2 ^ 31 - 1) n (2 ^ 32 - 1) (omega arith)

fits8 : (n : ℕ) → n < 256 → is_in_range (pos 0) (pos 255) (Number (pos n)) ≡ true
fits8 n lt = count_in_range n 255 (omega arith)

-- The text of an instruction before an offset stands for its chosen spelling.
pub stands : (at after : ℕ) (ins : Ins) → IsInRange ins → after ≡ at + length (chosen ins)
    → StandsFor at (ins_text (after % 2 ^ 32) ins) (chosen ins)
stands at after (Load r n) h e =
    register_number at m.Mov r n (Load r n) h
    (ap (λ k. Some (Whole (Load r k))) (same32 n h)) (fits32 n h)
stands at after (Put p n) h e =
    place_number at m.Mov p n (λ x. Put x n) h.0 h.1
    (λ x. ap (λ k. Some (Whole (Put (memory x) k))) (same32 n h.1)) (fits32 n h.1)
stands at after (MovTo (rms.Reg s) r) h e = two_registers at m.Mov s r (MovTo (rms.Reg s) r) refl
stands at after (MovTo (rms.Mem p) r) h e =
    place_register at m.Mov p r (λ x. MovTo (rms.Mem x) r) h (λ x. refl)
stands at after (MovFrom r p) h e = register_place at m.Mov r p (λ x. MovFrom r x) h (λ x. refl)
stands at after (ByteTo p b) h e = place_byte at p b h
stands at after (ByteFrom b p) h e = byte_place at b p h
stands at after (Widen r p) h e = widened at r p h
stands at after (WidenReg r b) h e = widened_register at r b
stands at after (Lea r p) h e = register_place at m.Lea r p (λ x. Lea r x) h (λ x. refl)
stands at after (Alu op (rms.Reg s) r) h e =
    two_registers at (m.Alu op) s r (Alu op (rms.Reg s) r) refl
stands at after (Alu op (rms.Mem p) r) h e =
    place_register at (m.Alu op) p r (λ x. Alu op (rms.Mem x) r) h (λ x. refl)
stands at after (AluFrom op r p) h e =
    register_place at (m.Alu op) r p (λ x. AluFrom op r x) h (λ x. refl)
stands at after (AluImm op (rms.Reg r) n) h e =
    register_number at (m.Alu op) r n (AluImm op (rms.Reg r) n) h.1
    (ap (λ k. Some (Whole (AluImm op (rms.Reg r) k))) (same32 n h.1)) (fits32 n h.1)
stands at after (AluImm op (rms.Mem p) n) h e =
    place_number at (m.Alu op) p n (λ x. AluImm op (rms.Mem x) n) h.0 h.1
    (λ x. ap (λ k. Some (Whole (AluImm op (rms.Mem (memory x)) k)))
    (same32 n h.1)) (fits32 n h.1)
stands at after (Test (rms.Reg s) r) h e = two_registers at m.Test s r (Test (rms.Reg s) r) refl
stands at after (Test (rms.Mem p) r) h e =
    place_register at m.Test p r (λ x. Test (rms.Mem x) r) h (λ x. refl)
stands at after (Inc r) h e = one_register at m.Inc r (Inc r) refl
stands at after (Dec r) h e = one_register at m.Dec r (Dec r) refl
stands at after (Push r) h e = one_register at m.Push r (Push r) refl
stands at after (Pop r) h e = one_register at m.Pop r (Pop r) refl
stands at after (PushImm n) h e =
    number_alone at m.Push n (PushImm n) h (ap (λ k. Some (Whole (PushImm k)))
    (same32 n h)) (fits32 n h)
stands at after (Shift op (rms.Reg r) n) h e =
    register_number at (m.Shift op) r n (Shift op (rms.Reg r) n) (omega (arith, h.1))
    (ap (λ k. Some (Whole (Shift op (rms.Reg r) k))) (same8 n h.1)) (fits8 n h.1)
stands at after (Shift op (rms.Mem p) n) h e =
    place_number at (m.Shift op) p n (λ x. Shift op (rms.Mem x) n) h.0 (omega (arith, h.1))
    (λ x. ap (λ k. Some (Whole (Shift op (rms.Mem (memory x)) k))) (same8 n h.1)) (fits8 n h.1)
stands at after (Imul r (rms.Reg s)) h e = two_registers at m.Imul r s (Imul r (rms.Reg s)) refl
stands at after (Imul r (rms.Mem p)) h e =
    register_place at m.Imul r p (λ x. Imul r (rms.Mem x)) h (λ x. refl)
stands at after (Unary op (rms.Reg r)) h e =
    one_register at (m.Unary op) r (Unary op (rms.Reg r)) refl
stands at after (Unary op (rms.Mem p)) h e =
    place_alone at (m.Unary op) p (λ x. Unary op (rms.Mem x)) h (λ x. refl)
stands at after (Jmp rel) h e = jump at after rel branch.Jmp h e
stands at after (Jcc c rel) h e = jump at after rel (branch.Jcc c) h e
stands at after (Call rel) h e = jump at after rel branch.Call h e
stands at after Ret h e = with_none at m.Ret Ret refl
stands at after (Gate n) h e =
    number_alone at m.Int n (Gate n) (omega arith)
    (ap (λ k. Some (Whole (Gate k))) (same8 n h)) (fits8 n h)
stands at after Nop h e = with_none at m.Nop Nop refl
