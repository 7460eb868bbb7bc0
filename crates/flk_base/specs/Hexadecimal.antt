-- When hexadecimal text is refused.
use Rattle.std.specs.Prelude.{◌≡◌, ℕ, ◌%◌, false, List, length, Any}
use Rattle.hex.specs.Hex.{is_hex_digit}
use Rattle.flk_base.specs.declared.hexadecimal.HexFault.{HexFault}
use Rattle.flk_base.specs.declared.hexadecimal.HexFault.TheVariants.{Odd, Digit, NoMemory}

-- a byte of the text is no hexadecimal digit
abbrev pub HasNonDigit : List ℕ → Type 0
HasNonDigit text = Any (λ c. is_hex_digit c ≡ false) text

-- an odd length comes first, and running out of memory never hides it
abbrev pub HasHexCause : List ℕ → HexFault → Type 0
HasHexCause text Odd = length text % 2 ≡ 1
HasHexCause text Digit = (length text % 2 ≡ 0) × HasNonDigit text
HasHexCause text NoMemory = length text % 2 ≡ 0
