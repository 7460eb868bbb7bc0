-- Values of digits.
use Rattle.std.proofs.Common.{◌≡◌, ℕ, ◌+◌, ◌*◌, ◌^◌, ◌<◌, ◌≤◌, List, [], ◌∷◌, length, get_or, drop, refl, arith, mul-le-mul_left}
use Rattle.std.specs.Prelude.{Option, Some, None, option_and_then}
use Rattle.std.proofs.lemmas.List.{drop_more, drop_all}
use Rattle.std.proofs.lemmas.Bool.Decides.{nat_tests}
use Rattle.expr_text.specs.Numbers.{digit_in, digits_value, if_in_range}

grown : (radix value d : ℕ) → 2 ≤ radix → value ≤ value * radix + d
grown radix value d h = omega (arith, mul-le-mul_left value h)

by_digit : (radix value : ℕ) (cs : List ℕ) (o : Option ℕ)
    → ((d : ℕ) → option_and_then if_in_range (digits_value radix (value * radix + d) cs) ≡ None)
    → option_and_then if_in_range (option_and_then
    (λ d. digits_value radix (value * radix + d) cs) o) ≡ None
by_digit radix value cs None h = refl
by_digit radix value cs (Some d) h = h d

-- a value that is too large stays so
pub too_large : (radix value : ℕ) (cs : List ℕ) → 2 ≤ radix → 2 ^ 32 ≤ value
    → option_and_then if_in_range (digits_value radix value cs) ≡ None
too_large radix value [] h l = grind (arith, nat_tests)
too_large radix value (c ∷ cs) h l =
    by_digit radix value cs (digit_in radix c)
    (λ d. too_large radix (value * radix + d) cs h (omega (arith, grown radix value d h)))

-- the value after one more digit fits 64 bits
pub next_fits : (value radix d : ℕ) → value < 2 ^ 32 → radix ≤ 16 → d < 2 ^ 32
    → value * radix + d < 2 ^ 64
next_fits value radix d v r l = omega (arith, mul-le-mul_left value r)

pub fits : (value : ℕ) → value < 2 ^ 32 → Some value ≡ if_in_range value
fits value h = grind (arith, nat_tests)

pub step : (radix value i d : ℕ) (xs : List ℕ) → i < length xs
    → Some d ≡ digit_in radix (get_or xs i 0)
    → digits_value radix value (drop i xs)
    ≡ digits_value radix (value * radix + d) (drop (i + 1) xs)
step radix value i d xs h e = rw (drop_more xs i 0 h, ← e) refl

pub at_end : (radix value i : ℕ) (xs : List ℕ) → length xs ≤ i
    → digits_value radix value (drop i xs) ≡ Some value
at_end radix value i xs h = rw (drop_all i xs h) refl
