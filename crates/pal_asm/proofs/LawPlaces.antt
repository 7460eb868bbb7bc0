-- A place in memory is read as what a listing wrote it for.
use Rattle.std.proofs.Common.{◌≡◌, ℕ, zero, suc, ◌-◌, ◌%◌, ◌^◌, ◌<◌, ◌≤◌, Bool, true, false, leb, List, [], ◌∷◌, ◌++◌, refl, ap, ◌∙◌, append_assoc, arith, ℤ, pos}
use Rattle.std.specs.Prelude.{codes, decimal, Option, Some, None, nat_lt, ◌==◌, ◌&&◌}
use Rattle.std.specs.List.{list_all, list_any}
use Rattle.std.proofs.lemmas.Bool.Decides.{nat_tests}
use Rattle.i386_profile.specs.declared.operands.Reg.{Reg}
use Rattle.i386_profile.specs.declared.operands.Mem.{Mem}
use Rattle.pal_asm.specs.declared.operand.Place.{Place}
use Rattle.pal_asm.specs.Tokens.{Token, Word, Dashed, Open, Close, Plus, begins_word, tokens, is_comma}
use Rattle.pal_asm.specs.Numbers.{number_of, minus, low32}
use Rattle.pal_asm.specs.Names.{register_name}
use Rattle.pal_asm.specs.Operands.{absolute, based, lone_place, place_with, place_of, is_displacement, is_place_in_range}
use Rattle.pal_asm.specs.Statements.{memory}
use Rattle.pal_asm.specs.Listing.{displacement_text, place_text}
use Rattle.pal_asm.proofs.LawNumbers.{IsDecimal, decimal_read, decimal_text}
use Rattle.pal_asm.proofs.LawTokens.{IsWord, tokens_append, tokens_word_then, tokens_dashed}
use Rattle.pal_asm.proofs.LawWords.{is_plain, plain_word, plain_append, register_word, register_known, no_register}

-- a number's text is a word
pub decimal_word : (n : ℕ) → n < 2 ^ 32 → IsWord (decimal n)
decimal_word n lt = let d =
    decimal_text n lt in record { begins = rw d.is (begins d.first d.low d.high); all = d.words }
  where
    begins : (c : ℕ) → 48 ≤ c → c ≤ 57 → begins_word (c ∷ []) ≡ true
    begins c low high = grind (arith, nat_tests)

-- what is read between brackets: the tokens after the opening one, and the place
pub record ReadsPlace (base : Option Reg) (disp : ℕ) : Type 0 where
  pub place : Place
  pub same : memory place ≡ record { base = base; disp = disp }
  pub in_range : is_place_in_range place ≡ true
  pub inside : List Token
  pub is : tokens (codes "[" ++ place_text base disp ++ codes "]") ≡ Open ∷ inside
  pub one : list_any is_comma inside ≡ false
  pub found : place_of inside ≡ Some place
  pub plain : list_all is_plain (codes "[" ++ place_text base disp ++ codes "]") ≡ true

abbrev at_place : Option Reg → ℕ → Mem
at_place base disp = record { base = base; disp = disp }

-- ---- without a base

address_fits : (n : ℕ) → n < 2 ^ 32 → is_displacement None (pos n) ≡ true
address_fits n lt = grind (arith, nat_tests)

alone_number : (text : List ℕ) (n : ℕ) → IsDecimal text → number_of text ≡ Some n
    → lone_place text ≡ Some (absolute n)
alone_number text n d e = rw (no_register text d, e) refl

reads_absolute : (n : ℕ) → n < 2 ^ 32 → ReadsPlace None n
reads_absolute n lt =
    let d = decimal_text n lt in
    let same : n % 2 ^ 32 ≡ n = omega arith in
    record {
      place = absolute n;
      same = ap (at_place None) same;
      in_range = address_fits n lt;
      inside = Word (decimal n) ∷ Close ∷ [];
      is = ap (λ ts. Open ∷ ts) (tokens_word_then (decimal n) (codes "]") (decimal_word n lt) refl);
      one = refl;
      found = alone_number (decimal n) n d (decimal_read n lt);
      plain = plain_append (decimal n) (codes "]") (plain_word (decimal n) d.words) refl;
    }

-- ---- with a base

-- the text after the base's name is read as this displacement
record ReadsAfter (r : Reg) (disp : ℕ) (text : List ℕ) : Type 0 where
  z : ℤ
  low : low32 z ≡ disp
  fits : is_displacement (Some r) z ≡ true
  begins : begins_word (text ++ codes "]") ≡ false
  inside : List Token
  is : tokens (text ++ codes "]") ≡ inside
  one : list_any is_comma inside ≡ false
  found : place_of (Word (register_name r) ∷ inside) ≡ Some (based r z)
  plain : list_all is_plain text ≡ true

alone_base : (r : Reg) → lone_place (register_name r) ≡ Some (based r (pos 0))
alone_base r = rw (register_known r) refl

place_with_base : (sign : ℕ → ℤ) (r : Reg) (text : List ℕ) (n : ℕ) → number_of text ≡ Some n
    → place_with sign (register_name r) text ≡ Some (based r (sign n))
place_with_base sign r text n e = rw (register_known r, e) refl

nothing_after : (r : Reg) → ReadsAfter r 0 []
nothing_after r =
    record {
      z = pos 0;
      low = refl;
      fits = refl;
      begins = refl;
      inside = Close ∷ [];
      is =
          refl;
      one = refl;
      found = alone_base r;
      plain = refl;
    }

above_fits : (r : Reg) (n : ℕ) → n < 2 ^ 31 → is_displacement (Some r) (pos n) ≡ true
above_fits r n lt = grind (arith, nat_tests)

plus_after : (r : Reg) (n : ℕ) → n < 2 ^ 31 → ReadsAfter r n (codes "+" ++ decimal n)
plus_after r n lt =
    let d = decimal_text n (omega arith) in
    record {
      z = pos n;
      low = omega arith;
      fits = above_fits r n lt;
      begins = refl;
      inside = Plus ∷ Word (decimal n) ∷ Close ∷ [];
      is = ap (λ ts. Plus ∷ ts) (tokens_word_then (decimal n) (codes "]")
          (decimal_word n (omega arith)) refl);
      one = refl;
      found = place_with_base pos r (decimal n) n (decimal_read n (omega arith));
      plain = plain_word (decimal n) d.words;
    }

low_minus : (m : ℕ) → 0 < m → m ≤ 2 ^ 31 → low32 (minus m) ≡ 2 ^ 32 - m
low_minus zero pos_m le = absurd (omega arith)
low_minus (suc k) pos_m le = omega arith

below_fits : (r : Reg) (m : ℕ) → 0 < m → m ≤ 2 ^ 31 → is_displacement (Some r) (minus m) ≡ true
below_fits r zero pos_m le = absurd (omega arith)
below_fits r (suc k) pos_m le = below k (omega arith) where
  below : (k : ℕ) → k ≤ 2 ^ 31 - 1 → (leb k (2 ^ 31 - 1) && true) ≡ true
  below k le = grind (arith, nat_tests)

minus_after : (r : Reg) (m : ℕ) → 0 < m → m ≤ 2 ^ 31
    → ReadsAfter r (2 ^ 32 - m) (codes "-" ++ decimal m)
minus_after r m lt le =
    let d = decimal_text m (omega arith) in
    let word = decimal_word m (omega arith) in
    let dashed : tokens (45 ∷ decimal m) ≡ Dashed (decimal m) ∷ [] =
    tokens_dashed (decimal m) word in
    record {
      z = minus m;
      low = low_minus m lt le;
      fits = below_fits r m lt le;
      begins = refl;
      inside = Dashed (decimal m) ∷ Close ∷ [];
      is = tokens_append (45 ∷ decimal m) (codes "]") refl ∙ ap (λ ts. ts ++ Close ∷ []) dashed;
      one = refl;
      found = place_with_base minus r (decimal m) m (decimal_read m (omega arith));
      plain = plain_word (decimal m) d.words;
    }

after_by : (r : Reg) (d : ℕ) (zero_d low_d : Bool) → d < 2 ^ 32 → (d == 0) ≡ zero_d
    → nat_lt d (2 ^ 31) ≡ low_d → ReadsAfter r d (displacement_text d)
after_by r d true low_d lt e f =
    let none : d ≡ 0 = grind (arith, nat_tests) in
    rw none (nothing_after r)
after_by r d false true lt e f = rw (e, f) (plus_after r d (grind (arith, nat_tests)))
after_by r d false false lt e f =
    let low : 2 ^ 31 ≤ d = grind (arith, nat_tests) in
    let back : 2 ^ 32 - (2 ^ 32 - d) ≡ d = omega arith in
    let here : ReadsAfter r (2 ^ 32 - (2 ^ 32 - d)) (codes "-" ++ decimal (2 ^ 32 - d)) =
    minus_after r (2 ^ 32 - d) (omega arith) (omega arith) in
    rw (e, f) (rw back at here)

reads_based : (r : Reg) (d : ℕ) (text : List ℕ) → displacement_text d ≡ text → ReadsAfter r d text
    → ReadsPlace (Some r) d
reads_based r d text e b =
    let whole : codes "[" ++ place_text (Some r) d
    ++ codes "]" ≡ 91 ∷ (register_name r ++ (text ++ codes "]")) =
    ap (λ x. 91 ∷ (register_name r ++ x ++ codes "]")) e
    ∙ ap (λ xs. 91 ∷ xs) (append_assoc (register_name r) text (codes "]")) in
    let name = plain_word (register_name r) (register_word r).all in
    let word = tokens_word_then (register_name r) (text ++ codes "]") (register_word r) b.begins in
    record {
      place = based r b.z;
      same = ap (at_place (Some r)) b.low;
      in_range = b.fits;
      inside = Word (register_name r) ∷ b.inside;
      is = ap tokens whole
          ∙ ap (λ ts. Open ∷ ts) (word ∙ ap (λ ts. Word (register_name r) ∷ ts) b.is);
      one = b.one;
      found = b.found;
      plain = ap (list_all is_plain) whole
          ∙ plain_append (register_name r) (text ++ codes "]") name
          (plain_append text (codes "]") b.plain refl);
    }

pub reads_place : (base : Option Reg) (disp : ℕ) → disp < 2 ^ 32 → ReadsPlace base disp
reads_place None d lt = reads_absolute d lt
reads_place (Some r) d lt =
    reads_based r d (displacement_text d) refl
    (after_by r d (d == 0) (nat_lt d (2 ^ 31)) lt refl refl)
