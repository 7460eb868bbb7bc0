-- The words of a listing, and what each is known as.
use Rattle.std.proofs.Common.{◌≡◌, ℕ, ◌<◌, ◌≤◌, Bool, true, false, not, List, [], ◌∷◌, ◌++◌, refl, ap, ◌∙◌, arith}
use Rattle.std.specs.Prelude.{◌==◌, ◌&&◌, nat_eq, Some, None}
use Rattle.std.specs.List.{list_all, find}
use Rattle.std.specs.Str.{bytes_eq}
use Rattle.std.proofs.lemmas.Bool.Decides.{nat_tests}
use Rattle.std.proofs.lemmas.List.Folds.{list_all-append}
use Rattle.i386_profile.specs.declared.operands.Reg.{Reg}
use Rattle.i386_profile.specs.declared.operands.Reg.TheVariants.{Eax}
use Rattle.i386_profile.specs.declared.operands.ByteReg.{ByteReg}
use Rattle.i386_profile.specs.declared.operands.ByteReg.TheVariants.{Al, Cl, Dl, Bl}
use Rattle.i386_profile.specs.declared.ins.AluOp.TheVariants.{Add}
use Rattle.i386_profile.specs.declared.ins.ShiftOp.TheVariants.{Shl}
use Rattle.i386_profile.specs.declared.ins.UnaryOp.TheVariants.{Not}
use Rattle.i386_profile.specs.declared.ins.Cond.TheVariants.{O}
use Rattle.pal_asm.specs.declared.names.Branch.TheVariants.{Jmp, Jcc}
use Rattle.pal_asm.specs.declared.names.Mnemonic.{Mnemonic}
use Rattle.pal_asm.specs.declared.names.Mnemonic.TheVariants.{Mov, Alu, Shift, Unary, Branch}
use Rattle.pal_asm.specs.Tokens.{is_word_byte}
use Rattle.pal_asm.specs.Names.{register_name, byte_register_name, mnemonic_name, registers, byte_registers, register_of, byte_register_of, mnemonic_of}
use Rattle.pal_asm.proofs.LawNumbers.{IsDecimal}
use Rattle.pal_asm.proofs.LawTokens.{IsWord, and_left, and_right}

-- a character that ends no line and begins no comment
abbrev pub is_plain : ℕ → Bool
is_plain c = not (c == 10) && (not (c == 13) && not (c == 59))

plain_byte : (c : ℕ) → is_word_byte c ≡ true → is_plain c ≡ true
plain_byte c e = grind (arith, nat_tests)

pub plain_word : (text : List ℕ) → list_all is_word_byte text ≡ true → list_all is_plain text ≡ true
plain_word [] h = refl
plain_word (c ∷ cs) h =
    rw (plain_byte c (and_left (is_word_byte c) (list_all is_word_byte cs) h))
    (plain_word cs (and_right (is_word_byte c) (list_all is_word_byte cs) h))

pub plain_append : (x y : List ℕ) → list_all is_plain x ≡ true → list_all is_plain y ≡ true
    → list_all is_plain (x ++ y) ≡ true
plain_append x y h k = list_all-append is_plain x y ∙ rw (h, k) refl

-- ---- words that the listing writes

pub mnemonic_word : (m : Mnemonic) → IsWord (mnemonic_name m)
mnemonic_word Mov = record { begins = refl; all = refl }
mnemonic_word (Alu Add) = record { begins = refl; all = refl }
mnemonic_word (Shift Shl) = record { begins = refl; all = refl }
mnemonic_word (Unary Not) = record { begins = refl; all = refl }
mnemonic_word (Branch Jmp) = record { begins = refl; all = refl }
mnemonic_word (Branch (Jcc O)) = record { begins = refl; all = refl }
mnemonic_word _ = record { begins = refl; all = refl }

pub mnemonic_known : (m : Mnemonic) → mnemonic_of (mnemonic_name m) ≡ Some m
mnemonic_known Mov = refl
mnemonic_known (Alu Add) = refl
mnemonic_known (Shift Shl) = refl
mnemonic_known (Unary Not) = refl
mnemonic_known (Branch Jmp) = refl
mnemonic_known (Branch (Jcc O)) = refl
mnemonic_known _ = refl

pub register_word : (r : Reg) → IsWord (register_name r)
register_word Eax = record { begins = refl; all = refl }
register_word _ = record { begins = refl; all = refl }

pub register_known : (r : Reg) → register_of (register_name r) ≡ Some r
register_known Eax = refl
register_known _ = refl

pub byte_register_word : (b : ByteReg) → IsWord (byte_register_name b)
byte_register_word Al = record { begins = refl; all = refl }
byte_register_word _ = record { begins = refl; all = refl }

pub no_register_of_byte : (b : ByteReg) → register_of (byte_register_name b) ≡ None
no_register_of_byte Al = refl
no_register_of_byte _ = refl

pub byte_register_known : (b : ByteReg) → byte_register_of (byte_register_name b) ≡ Some b
byte_register_known Al = refl
byte_register_known _ = refl

-- ---- a number's digits name no register

find_none : {X : Type 0} (p : X → Bool) (xs : List X) → ((x : X) → p x ≡ false) → find p xs ≡ None
find_none p [] h = refl
find_none p (x ∷ xs) h = rw (h x) (find_none p xs h)

no_digit : (letter c : ℕ) → c ≤ 57 → 57 < letter → nat_eq letter c ≡ false
no_digit letter c le lt = grind (arith, nat_tests)

not_named : (c : ℕ) (cs : List ℕ) → nat_eq 101 c ≡ false → (r : Reg)
    → bytes_eq (register_name r) (c ∷ cs) ≡ false
not_named c cs h Eax = rw h refl
not_named c cs h _ = rw h refl

pub no_register : (text : List ℕ) → IsDecimal text → register_of text ≡ None
no_register text d =
    ap register_of d.is ∙ find_none (λ r. bytes_eq (register_name r) (d.first ∷ d.others)) registers
    (not_named d.first d.others (no_digit 101 d.first d.high (omega arith)))

byte_not_named : (c : ℕ) (cs : List ℕ) → c ≤ 57 → (b : ByteReg)
    → bytes_eq (byte_register_name b) (c ∷ cs) ≡ false
byte_not_named c cs le Al = rw (no_digit 97 c le (omega arith)) refl
byte_not_named c cs le Cl = rw (no_digit 99 c le (omega arith)) refl
byte_not_named c cs le Dl = rw (no_digit 100 c le (omega arith)) refl
byte_not_named c cs le Bl = rw (no_digit 98 c le (omega arith)) refl

pub no_byte_register : (text : List ℕ) → IsDecimal text → byte_register_of text ≡ None
no_byte_register text d =
    ap byte_register_of d.is
    ∙ find_none (λ b. bytes_eq (byte_register_name b) (d.first ∷ d.others)) byte_registers
    (byte_not_named d.first d.others d.high)
