-- How numbers are spelled. A word may spell a number of any size; what fits is asked later.
use Rattle.std.specs.Prelude.{ℕ, zero, suc, ◌+◌, ◌-◌, ◌*◌, ◌%◌, ◌^◌, nat_eq, nat_lt, List, [], ◌∷◌, drop, codes, Option, Some, None, option_and_then, if◌then◌else◌, ℤ, pos, negsuc}
use Rattle.std.specs.List.{starts_with}
use Rattle.std.specs.Char.{digit_value}

-- the value of a digit in this radix, a hexadecimal one in either case
abbrev pub digit_in : ℕ → ℕ → Option ℕ
digit_in radix c = if nat_lt (digit_value c) radix then Some (digit_value c) else None

-- the value of digits that stand after digits of this value
abbrev pub digits_value : ℕ → ℕ → List ℕ → Option ℕ
digits_value radix value [] = Some value
digits_value radix value (c ∷ cs) =
    option_and_then (λ d. digits_value radix (value * radix + d) cs) (digit_in radix c)

-- the value of at least one digit
abbrev pub numeral : ℕ → List ℕ → Option ℕ
numeral radix [] = None
numeral radix (c ∷ cs) = digits_value radix 0 (c ∷ cs)

-- a number without a sign: decimal digits, or 0x and hexadecimal digits
abbrev pub number_of : List ℕ → Option ℕ
number_of word =
    if starts_with nat_eq word (codes "0x") then numeral 16 (drop 2 word) else numeral 10 word

-- a number after a minus sign
abbrev pub minus : ℕ → ℤ
minus zero = pos 0
minus (suc n) = negsuc n

-- a number modulo a power of two, so -1 is one below it
abbrev pub modulo : ℕ → ℤ → ℕ
modulo limit (pos n) = n % limit
modulo limit (negsuc n) = limit - 1 - n % limit

-- modulo 2 ^ 32
abbrev pub low32 : ℤ → ℕ
low32 z = modulo (2 ^ 32) z

-- modulo 2 ^ 8
abbrev pub low8 : ℤ → ℕ
low8 z = modulo (2 ^ 8) z
