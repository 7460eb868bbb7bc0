-- The operands of a statement: how each is spelled in tokens, and what its numbers may be.
use Rattle.std.specs.Prelude.{ℕ, ◌^◌, ◌-◌, ◌&&◌, Bool, true, List, [], ◌∷◌, codes, Option, Some, None, option_map, option_and_then, if◌then◌else◌, ℤ, pos, negsuc, int_le}
use Rattle.std.specs.List.{slice_split}
use Rattle.std.specs.Str.{bytes_eq}
use Rattle.i386_profile.specs.declared.operands.Reg.{Reg}
use Rattle.pal_asm.specs.declared.operand.Place.{Place}
use Rattle.pal_asm.specs.declared.operand.Operand.{Operand}
use Rattle.pal_asm.specs.declared.operand.Operand.TheVariants.{Register, ByteRegister, Number, Label, Memory, Dword, Byte}
use Rattle.pal_asm.specs.Tokens.{Token, Word, Dashed, Open, Close, Plus, Minus, is_comma}
use Rattle.pal_asm.specs.Numbers.{number_of, minus}
use Rattle.pal_asm.specs.Names.{register_of, byte_register_of, name_of, or_else}

-- ---- spelling

-- a place without a base, and one with a base
abbrev pub absolute : ℕ → Place
absolute n = record { base = None; displacement = pos n }

abbrev pub based : Reg → ℤ → Place
based r z = record { base = Some r; displacement = z }

-- `r` or `N` between brackets
abbrev pub lone_place : List ℕ → Option Place
lone_place word =
    or_else (option_map (λ r. based r (pos 0)) (register_of word))
    (option_map absolute (number_of word))

-- `r+N` or `r-N` between brackets
abbrev pub place_with : (ℕ → ℤ) → List ℕ → List ℕ → Option Place
place_with sign word number =
    option_and_then (λ r. option_map (λ n. based r (sign n)) (number_of number)) (register_of word)

-- what follows an opening bracket: the place, and the closing one
abbrev pub place_of : List Token → Option Place
place_of (Word w ∷ Close ∷ []) = lone_place w
place_of (Word w ∷ Plus ∷ Word n ∷ Close ∷ []) = place_with pos w n
place_of (Word w ∷ Minus ∷ Word n ∷ Close ∷ []) = place_with minus w n
place_of (Word w ∷ Dashed n ∷ Close ∷ []) = place_with minus w n
place_of _ = None

-- a word that names no register: a number or a label
abbrev pub plain_operand : List ℕ → Option Operand
plain_operand w =
    or_else (option_map (λ n. Number (pos n)) (number_of w)) (option_map Label (name_of w))

-- a word alone: a register wherever it names one
abbrev pub word_operand : List ℕ → Option Operand
word_operand w =
    or_else (option_map Register (register_of w))
    (or_else (option_map ByteRegister (byte_register_of w)) (plain_operand w))

-- a place whose size is said
abbrev pub sized_operand : List ℕ → Option Place → Option Operand
sized_operand w place =
    if bytes_eq w (codes "dword") then option_map Dword place
    else if bytes_eq w (codes "byte") then option_map Byte place
    else None

-- an operand
abbrev pub operand_of : List Token → Option Operand
operand_of (Word w ∷ []) = word_operand w
operand_of (Dashed n ∷ []) = option_map (λ n. Number (minus n)) (number_of n)
operand_of (Open ∷ rest) = option_map Memory (place_of rest)
operand_of (Word w ∷ Open ∷ rest) = sized_operand w (place_of rest)
operand_of _ = None

-- each one's operand, or none where one has none
abbrev pub all_operands : List (List Token) → Option (List Operand)
all_operands [] = Some []
all_operands (piece ∷ pieces) =
    option_and_then (λ o. option_map (λ os. o ∷ os) (all_operands pieces)) (operand_of piece)

-- the operands of a statement: none, or those between commas
abbrev pub operands_of : List Token → Option (List Operand)
operands_of [] = Some []
operands_of tokens = all_operands (slice_split is_comma tokens)

-- ---- ranges

-- from the first number to the second
abbrev pub is_within : ℤ → ℤ → ℤ → Bool
is_within least most z = int_le least z && int_le z most

-- an address has 32 bits; what stands after a base is signed
abbrev pub is_displacement : Option Reg → ℤ → Bool
is_displacement None z = is_within (pos 0) (pos (2 ^ 32 - 1)) z
is_displacement (Some r) z = is_within (negsuc (2 ^ 31 - 1)) (pos (2 ^ 31 - 1)) z

abbrev pub is_place_in_range : Place → Bool
is_place_in_range place = is_displacement place.base place.displacement

-- the numbers of an operand lie in their ranges, where the statement takes numbers from least to
-- most
abbrev pub is_in_range : ℤ → ℤ → Operand → Bool
is_in_range least most (Number z) = is_within least most z
is_in_range least most (Memory place) = is_place_in_range place
is_in_range least most (Dword place) = is_place_in_range place
is_in_range least most (Byte place) = is_place_in_range place
is_in_range least most _ = true
