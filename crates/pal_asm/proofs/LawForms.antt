-- Each statement of a listing stands for its bytes.
use Rattle.std.proofs.Common.{◌≡◌, ℕ, ◌+◌, ◌-◌, ◌%◌, ◌^◌, ◌<◌, ◌≤◌, true, leb, List, [], ◌∷◌, length, refl, ap, ◌∙◌, arith, ℤ, pos, negsuc}
use Rattle.std.specs.Prelude.{Some, None, ◌&&◌}
use Rattle.std.specs.List.{list_all}
use Rattle.std.proofs.lemmas.Bool.Decides.{nat_tests}
use Rattle.i386_profile.specs.declared.ins.Ins.{Ins}
use Rattle.i386_profile.specs.Chosen.{chosen}
use Rattle.pal_asm.specs.declared.names.Branch.{Branch}
use Rattle.pal_asm.specs.declared.names.Branch.TheVariants as branch
use Rattle.pal_asm.specs.declared.names.Mnemonic.{Mnemonic}
use Rattle.pal_asm.specs.declared.names.Mnemonic.TheVariants as m
use Rattle.pal_asm.specs.declared.operand.Operand.{Operand}
use Rattle.pal_asm.specs.declared.operand.Operand.TheVariants.{Number}
use Rattle.pal_asm.specs.declared.operand.Target.TheVariants as target
use Rattle.pal_asm.specs.Numbers.{low32, low8}
use Rattle.pal_asm.specs.Operands.{is_in_range}
use Rattle.pal_asm.specs.Statements.{Statement, Whole, Jump, Bytes, statement_of, least_number, most_number, distance, branch_by, bytes_at, size_of, label_of}

-- a word and its operands make a statement that gives these bytes at an offset and waits for no
-- label
pub record Makes (at : ℕ) (word : Mnemonic) (os : List Operand) (bytes : List ℕ) : Type 0 where
  pub statement : Statement
  pub made : statement_of word os ≡ Some statement
  pub in_range : list_all (is_in_range (least_number word) (most_number word)) os ≡ true
  pub gives : bytes_at at 0 statement ≡ bytes
  pub size : size_of statement ≡ length bytes
  pub alone : label_of statement ≡ None

pub makes_whole : (at : ℕ) (word : Mnemonic) (os : List Operand) (ins : Ins)
    → statement_of word os ≡ Some (Whole ins)
    → list_all (is_in_range (least_number word) (most_number word)) os ≡ true
    → Makes at word os (chosen ins)
makes_whole at word os ins e r =
    record {
      statement = Whole ins;
      made = e;
      in_range = r;
      gives = refl;
      size =
          refl;
      alone = refl;
    }

-- ---- ranges

pub one_in_range : (least most : ℤ) (o : Operand) → is_in_range least most o ≡ true
    → list_all (is_in_range least most) (o ∷ []) ≡ true
one_in_range least most o e = rw e refl

pub two_in_range : (least most : ℤ) (o p : Operand) → is_in_range least most o ≡ true
    → is_in_range least most p ≡ true
    → list_all (is_in_range least most) (o ∷ p ∷ []) ≡ true
two_in_range least most o p e f = rw (e, f) refl

within : (n most : ℕ) → n ≤ most → (true && leb n most) ≡ true
within n most le = grind (arith, nat_tests)

-- a number from a least one that is not above 0
pub number_in_range : (k n most : ℕ) → n ≤ most
    → is_in_range (negsuc k) (pos most) (Number (pos n)) ≡ true
number_in_range k n most le = within n most le

pub count_in_range : (n most : ℕ) → n ≤ most
    → is_in_range (pos 0) (pos most) (Number (pos n)) ≡ true
count_in_range n most le = grind (arith, nat_tests)

-- ---- jumps

-- the offset after a jump and its distance give its target, and the target the distance
pub distance_back : (after rel : ℕ) → rel < 2 ^ 32
    → distance (low32 (pos ((after % 2 ^ 32 + rel) % 2 ^ 32))) after ≡ rel
distance_back after rel lt = omega arith

-- a jump's length does not depend on its distance
branch_length : (b : Branch) (x y : ℕ)
    → length (chosen (branch_by b x)) ≡ length (chosen (branch_by b y))
branch_length branch.Jmp x y = refl
branch_length (branch.Jcc c) x y = refl
branch_length branch.Call x y = refl

-- a jump to the offset after it and a distance
pub makes_jump : (at after rel : ℕ) (b : Branch) → rel < 2 ^ 32
    → after ≡ at + length (chosen (branch_by b rel))
    → Makes at (m.Branch b) (Number (pos ((after % 2 ^ 32 + rel) % 2 ^ 32)) ∷ [])
    (chosen (branch_by b rel))
makes_jump at after rel b lt e =
    let to = low32 (pos ((after % 2 ^ 32 + rel) % 2 ^ 32)) in
    let same : at + length (chosen (branch_by b 0)) ≡ after =
    omega (arith, e, branch_length b 0 rel) in
    record {
      statement = Jump b (target.Offset to);
      made = refl;
      in_range =
          one_in_range (pos 0) (pos (2 ^ 32 - 1)) (Number (pos ((after % 2 ^ 32 + rel) % 2 ^ 32)))
          (count_in_range ((after % 2 ^ 32 + rel) % 2 ^ 32) (2 ^ 32 - 1) (omega arith));
      gives = ap (λ d. chosen (branch_by b d)) (ap (distance to) same ∙ distance_back after rel lt);
      size = branch_length b (distance to (0 + length (chosen (branch_by b 0)))) rel;
      alone = refl;
    }

-- ---- bytes

-- one byte
pub makes_byte : (at byte : ℕ) → byte < 256 → Makes at m.Byte (Number (pos byte) ∷ []) (byte ∷ [])
makes_byte at byte lt =
    let same : byte % 2 ^ 8 ≡ byte = omega arith in
    record {
      statement = Bytes (low8 (pos byte) ∷ []);
      made = refl;
      in_range =
          one_in_range (negsuc 127) (pos 255) (Number (pos byte))
          (number_in_range 127 byte 255 (omega arith));
      gives = ap (λ n. n ∷ []) same;
      size = refl;
      alone = refl;
    }
