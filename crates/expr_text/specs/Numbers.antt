-- How the numbers of a script are spelled.
use Rattle.std.specs.Prelude.{ℕ, ◌+◌, ◌*◌, ◌^◌, ◌&&◌, nat_eq, nat_le, nat_lt, List, [], ◌∷◌, length, drop, codes, Option, Some, None, option_and_then, if◌then◌else◌}
use Rattle.std.specs.List.{starts_with}
use Rattle.std.specs.Char.{digit_value}

-- the value of a digit in this radix
abbrev pub digit_in : ℕ → ℕ → Option ℕ
digit_in radix c = if nat_lt (digit_value c) radix then Some (digit_value c) else None

-- the value of digits that stand after digits of this value
abbrev pub digits_value : ℕ → ℕ → List ℕ → Option ℕ
digits_value radix value [] = Some value
digits_value radix value (c ∷ cs) =
    option_and_then (λ d. digits_value radix (value * radix + d) cs) (digit_in radix c)

-- a value below 2 ^ 32
abbrev pub if_in_range : ℕ → Option ℕ
if_in_range value = if nat_lt value (2 ^ 32) then Some value else None

-- the value of at least one and at most so many digits, where it is below 2 ^ 32
abbrev pub value_of_few : ℕ → ℕ → List ℕ → Option ℕ
value_of_few most radix digits =
    if nat_lt 0 (length digits) && nat_le (length digits) most
    then option_and_then if_in_range (digits_value radix 0 digits) else None

-- a Number: 1 to 10 decimal digits, or 0x and 1 to 8 hexadecimal digits of either case, with a
-- value below 2 ^ 32
abbrev pub number_of : List ℕ → Option ℕ
number_of word =
    if starts_with nat_eq word (codes "0x") then value_of_few 8 16 (drop 2 word)
    else value_of_few 10 10 word
