-- What a listing writes for a number is read as that number.
use Rattle.std.proofs.Common.{◌≡◌, ℕ, ◌+◌, ◌*◌, ◌^◌, ◌<◌, ◌≤◌, Bool, true, false, cond, ltb, List, [], ◌∷◌, ◌++◌, refl, ap, ◌∙◌, arith}
use Rattle.std.specs.Prelude.{Some, None, codes, decimal, nat_eq, ◌&&◌}
use Rattle.std.specs.Fmt.{digits}
use Rattle.std.specs.Char.{digit_value}
use Rattle.std.specs.List.{starts_with, list_all}
use Rattle.std.specs.Str.Parse.{AllDigits, IsNumeral, digits_value as value_of, digits_value_after}
use Rattle.std.proofs.lemmas.Bool.Decides.{nat_tests}
use Rattle.std.proofs.lemmas.Fmt.{decimal_is_IsNumeral, digits_is_IsNumeral}
use Rattle.pal_asm.specs.Numbers.{digit_in, digits_value, numeral, number_of}
use Rattle.pal_asm.specs.Tokens.{is_word_byte}

-- ---- values

digit_by : (radix d : ℕ) → d < radix → cond (ltb d radix) (Some d) None ≡ Some d
digit_by radix d lt = grind (arith, nat_tests)

digits_read : (radix value : ℕ) (cs : List ℕ) → AllDigits radix cs
    → digits_value radix value cs ≡ Some (digits_value_after radix value cs)
digits_read radix value [] h = refl
digits_read radix value (c ∷ cs) h =
    let one : digit_in radix c ≡ Some (digit_value c) = digit_by radix (digit_value c) h.0 in
    rw one (digits_read radix (value * radix + digit_value c) cs h.1)

pub numeral_is : (radix n : ℕ) (ds : List ℕ) → IsNumeral radix ds → value_of radix ds ≡ n
    → numeral radix ds ≡ Some n
numeral_is radix n [] h e = absurd (omega (arith, h.0))
numeral_is radix n (c ∷ cs) h e = digits_read radix 0 (c ∷ cs) h.1 ∙ ap Some e

and_false : (b : Bool) → (b && false) ≡ false
and_false true = refl
and_false false = refl

-- a digit of ten is no letter
no_letter : (c : ℕ) → digit_value c < 10 → (48 ≤ c) × (c ≤ 57)
no_letter c lt = grind (arith, nat_tests)

no_x : (c : ℕ) → digit_value c < 10 → nat_eq 120 c ≡ false
no_x c lt = let h = no_letter c lt in grind (arith, nat_tests)

no_hex : (ds : List ℕ) → AllDigits 10 ds → starts_with nat_eq ds (codes "0x") ≡ false
no_hex [] h = refl
no_hex (c ∷ []) h = and_false (nat_eq 48 c)
no_hex (c ∷ d ∷ ds) h = rw (no_x d h.1.0) (and_false (nat_eq 48 c))

-- decimal digits are read back
pub decimal_read : (n : ℕ) → n < 2 ^ 32 → number_of (decimal n) ≡ Some n
decimal_read n lt =
    let h = decimal_is_IsNumeral n (omega arith) in
    rw (no_hex (decimal n) h.0.1) (numeral_is 10 n (decimal n) h.0 h.1)

-- hexadecimal digits after 0x are read back
pub hexadecimal_read : (n : ℕ) → n < 2 ^ 32 → number_of (codes "0x" ++ digits 16 false n) ≡ Some n
hexadecimal_read n lt =
    let h = digits_is_IsNumeral 16 false (omega arith) (omega arith) n (omega arith) in
    numeral_is 16 n (digits 16 false n) h.0 h.1

-- ---- digits are characters of words

digit_range : (c : ℕ) → digit_value c < 16 → is_word_byte c ≡ true
digit_range c lt = grind (arith, nat_tests)

pub words_of_digits : (ds : List ℕ) → AllDigits 16 ds → list_all is_word_byte ds ≡ true
words_of_digits [] h = refl
words_of_digits (c ∷ cs) h = rw (digit_range c h.0) (words_of_digits cs h.1)

fewer : (ds : List ℕ) → AllDigits 10 ds → AllDigits 16 ds
fewer [] h = tt
fewer (c ∷ cs) h = (omega (arith, h.0), fewer cs h.1)

-- what a number's text is: at least one digit, the first of them no letter
pub record IsDecimal (text : List ℕ) : Type 0 where
  pub first : ℕ
  pub others : List ℕ
  pub is : text ≡ first ∷ others
  pub low : 48 ≤ first
  pub high : first ≤ 57
  pub words : list_all is_word_byte text ≡ true

decimal_by : (text : List ℕ) → IsNumeral 10 text → IsDecimal text
decimal_by [] h = absurd (omega (arith, h.0))
decimal_by (c ∷ cs) h =
    let range = no_letter c h.1.0 in
    record {
      first = c;
      others = cs;
      is = refl;
      low = range.0;
      high = range.1;
      words =
          words_of_digits (c ∷ cs) (fewer (c ∷ cs) h.1);
    }

pub decimal_text : (n : ℕ) → n < 2 ^ 32 → IsDecimal (decimal n)
decimal_text n lt = decimal_by (decimal n) (decimal_is_IsNumeral n (omega arith)).0

pub hexadecimal_words : (n : ℕ) → n < 2 ^ 32 → list_all is_word_byte (digits 16 false n) ≡ true
hexadecimal_words n lt =
    words_of_digits (digits 16 false n) (digits_is_IsNumeral 16 false (omega arith) (omega arith) n
    (omega arith)).0.1
