-- Which bytes stand in the words of an expression: none of them ends a word.
use Rattle.std.proofs.Common.{◌≡◌, ◌⊎◌, inl, inr, ℕ, ◌+◌, ◌*◌, ◌≤◌, ◌==◌, Bool, true, false, not, cond, List, [], ◌∷◌, ◌++◌, length, drop, refl, sym, ap, ◌∙◌, arith}
use Rattle.std.specs.Prelude.{Option, Some, None, Ok, nat_eq, nat_lt, nat_le, ◌&&◌, ◌||◌, codes, option_and_then}
use Rattle.std.specs.Option.{ok_or}
use Rattle.std.specs.List.{All, AllPass, list_all, starts_with}
use Rattle.std.specs.Char.{digit_value}
use Rattle.std.proofs.lemmas.Bool.{and_parts, or_parts, or_from, not-true, not_from_false, eqb-true, false_from_ne_true, ltb-true, lt-ltb}
use Rattle.std.proofs.lemmas.Bool.Decides.{Decides-eqb}
use Rattle.std.proofs.lemmas.Slice.Eq.{starts_is}
use Rattle.std.proofs.lemmas.List.Elements.{All-nil, All-cons, All-append, All-weaker, All-same}
use Rattle.std.proofs.lemmas.List.Sums.{AllPass-from_list_all}
use Rattle.hex.specs.Hex.{decode_of, is_hex_digit}
use Rattle.hex.proofs.HexLemmas.{decode_of-ok}
use Rattle.expr_text.specs.Numbers.{digit_in, digits_value, if_in_range, value_of_few, number_of}
use Rattle.expr_text.specs.Expressions.{is_name, is_name_byte, is_small_letter}
use Rattle.expr_text.specs.ExpressionReading.{opens}
use Rattle.expr_text.specs.declared.name.TheConstants.{LONGEST_NAME}

-- no byte that ends or begins a part of an expression
abbrev pub is_plain : ℕ → Bool
is_plain c = not (opens c || (c == 43 || c == 46))

abbrev pub IsPlain : ℕ → Type 0
IsPlain c = is_plain c ≡ true

abbrev pub Plain : List ℕ → Type 0
Plain text = AllPass is_plain text

no_byte : (test : ℕ → Bool) (c k : ℕ) → test k ≡ false → test c ≡ true → (c == k) ≡ false
no_byte test c k fails pass =
    false_from_ne_true (c == k) (λ e. let same : c ≡ k = eqb-true c k e in let no : test k
    ≡ true = ap test (sym same) ∙ pass in cc)

-- a test that those bytes fail is passed by plain bytes alone
plain_by : (test : ℕ → Bool) → test 91 ≡ false → test 126 ≡ false → test 43 ≡ false
    → test 46 ≡ false → (c : ℕ) → test c ≡ true → is_plain c ≡ true
plain_by test a b p d c pass =
    not_from_false _
    (or_from _ _ (or_from _ _ (no_byte test c 91 a pass) (no_byte test c 126 b pass))
    (or_from _ _ (no_byte test c 43 p pass) (no_byte test c 46 d pass)))

hex_plain : (c : ℕ) → is_hex_digit c ≡ true → is_plain c ≡ true
hex_plain = plain_by is_hex_digit refl refl refl refl

name_plain : (c : ℕ) → is_name_byte c ≡ true → is_plain c ≡ true
name_plain = plain_by is_name_byte refl refl refl refl

digit_plain : (c : ℕ) → nat_lt (digit_value c) 36 ≡ true → is_plain c ≡ true
digit_plain = plain_by (λ c. nat_lt (digit_value c) 36) refl refl refl refl

-- hexadecimal digits
pub digits_plain : (digits bytes : List ℕ) → decode_of digits ≡ Ok bytes → Plain digits
digits_plain digits bytes h =
    All-weaker (λ c. is_hex_digit c ≡ true) IsPlain hex_plain digits (decode_of-ok digits bytes h).1

-- ---- names

abbrev pub IsNameByte : ℕ → Type 0
IsNameByte c = is_name_byte c ≡ true

pub is_name-parts : (word : List ℕ) → is_name word ≡ true
    → All IsNameByte word × (length word ≤ LONGEST_NAME)
is_name-parts [] h = absurd (cc)
is_name-parts (c ∷ cs) h =
    let p = and_parts (is_small_letter c && nat_lt (length cs) LONGEST_NAME) (list_all is_name_byte cs) h in
    let q = and_parts (is_small_letter c) (nat_lt (length cs) LONGEST_NAME) p.0 in
    let letter = q.0 in
    let first : is_name_byte c ≡ true = rw letter refl in
    let few = ltb-true (length cs) LONGEST_NAME q.1 in
    (All-cons IsNameByte c cs first (AllPass-from_list_all is_name_byte cs p.1), omega arith)

pub name_is_plain : (word : List ℕ) → is_name word ≡ true → Plain word
name_is_plain word h = All-weaker IsNameByte IsPlain name_plain word (is_name-parts word h).0

-- ---- Numbers

-- which way a test went
pub chosen : {A : Type 0} (b : Bool) (x y z : A) → cond b x y ≡ z
    → ((b ≡ true) × (x ≡ z)) ⊎ ((b ≡ false) × (y ≡ z))
chosen true x y z h = inl (refl, h)
chosen false x y z h = inr (refl, h)

-- a value that is there
pub has_some : {A E : Type 0} (o : Option A) (fault : E) (x : A) → ok_or o fault ≡ Ok x → o ≡ Some x
has_some (Some y) fault x h = cc
has_some None fault x h = cc

-- a first step that gave a value
pub first_step : {A B : Type 0} (f : A → Option B) (o : Option A) (n : B)
    → option_and_then f o ≡ Some n → (d : A) × (o ≡ Some d) × (f d ≡ Some n)
first_step f (Some d) n h = (d, refl, h)
first_step f None n h = absurd (cc)

digit_below : (radix c d : ℕ) → radix ≤ 36 → digit_in radix c ≡ Some d → is_plain c ≡ true
digit_below radix c d low h =
    elim (chosen (nat_lt (digit_value c) radix) (Some (digit_value c)) None (Some d) h) [
      | inl took ↦ let small = ltb-true (digit_value c) radix took.0 in
          digit_plain c (lt-ltb (digit_value c) 36 (omega arith))
      | inr other ↦ absurd (let no = other.1 in cc)
    ]

digits_value-plain : (radix value : ℕ) (cs : List ℕ) (n : ℕ) → radix ≤ 36
    → digits_value radix value cs ≡ Some n → Plain cs
digits_value-plain radix value [] n low h = All-nil IsPlain
digits_value-plain radix value (c ∷ cs) n low h =
    let s = first_step (λ d. digits_value radix (value * radix + d) cs) (digit_in radix c) n h in
    All-cons IsPlain c cs (digit_below radix c s.0 low s.1)
    (digits_value-plain radix (value * radix + s.0) cs n low s.2)

value_of_few-plain : (most radix : ℕ) (digits : List ℕ) (n : ℕ) → radix ≤ 36
    → value_of_few most radix digits ≡ Some n → Plain digits
value_of_few-plain most radix digits n low h =
    elim (chosen (nat_lt 0 (length digits) && nat_le (length digits) most) _ None (Some n) h) [
      | inl took ↦ let v = first_step if_in_range (digits_value radix 0 digits) n took.1 in
          digits_value-plain radix 0 digits v.0 low v.1
      | inr other ↦ absurd (let no = other.1 in cc)
    ]

pub number_plain : (word : List ℕ) (n : ℕ) → number_of word ≡ Some n → Plain word
number_plain word n h =
    elim (chosen (starts_with nat_eq word (codes "0x")) (value_of_few 8 16 (drop 2 word))
    (value_of_few 10 10 word) (Some n) h) [
      | inl took ↦
          let whole : word ≡ codes "0x" ++ drop 2 word =
          (starts_is Decides-eqb word (codes "0x") true (sym took.0)).0 refl in
          All-same IsPlain word (codes "0x" ++ drop 2 word) whole
          (All-append IsPlain (codes "0x") (drop 2 word)
          (AllPass-from_list_all is_plain (codes "0x") refl)
          (value_of_few-plain 8 16 (drop 2 word) n (omega arith) took.1))
      | inr other ↦ value_of_few-plain 10 10 word n (omega arith) other.1
    ]

-- ---- what plain bytes are not

parts_of : (c : ℕ) → is_plain c ≡ true
    → (opens c ≡ false) × ((c == 43) ≡ false) × ((c == 46) ≡ false)
parts_of c h =
    let p = or_parts (opens c) (c == 43 || c == 46) (not-true _ h) in
    let q = or_parts (c == 43) (c == 46) p.1 in
    (p.0, q.0, q.1)

pub no_opening : (text : List ℕ) → Plain text → All (λ c. opens c ≡ false) text
no_opening text plain =
    All-weaker IsPlain (λ c. opens c ≡ false) (λ c h. (parts_of c h).0) text plain

pub no_plus : (text : List ℕ) → Plain text → All (λ c. (c == 43) ≡ false) text
no_plus text plain =
    All-weaker IsPlain (λ c. (c == 43) ≡ false) (λ c h. (parts_of c h).1) text plain

pub no_dot : (text : List ℕ) → Plain text → All (λ c. (c == 46) ≡ false) text
no_dot text plain = All-weaker IsPlain (λ c. (c == 46) ≡ false) (λ c h. (parts_of c h).2) text plain
