-- The grammar of expressions: terms that follow one another.
use Rattle.std.specs.Prelude.{◌≡◌, ℕ, ◌==◌, ◌||◌, ◌&&◌, nat_le, nat_lt, Bool, true, false, List, [], ◌∷◌, ◌++◌, length, codes, Some, Ok}
use Rattle.std.specs.List.{list_all}
use Rattle.hex.specs.Hex.{decode_of}
use Rattle.expr_text.specs.declared.name.TheConstants.{LONGEST_NAME}
use Rattle.expr_text.specs.Numbers.{number_of}

-- what a term begins with: these bytes, one byte so many times, or the value of a name
pub data Atom : Type 0 where
  Literal : (bytes : List ℕ) → Atom
  Repeated : (byte : ℕ) → (count : ℕ) → Atom
  Named : (name : List ℕ) → Atom

-- what is done to a value: to keep the bytes from one index up to another, or to flip the lowest
-- bit of the byte at an index
pub data Suffix : Type 0 where
  Cut : (from : ℕ) → (to : ℕ) → Suffix
  Flip : (at : ℕ) → Suffix

-- an atom and what is done to its value, from the left
pub record Term : Type 0 where
  pub atom : Atom
  pub suffixes : List Suffix

-- ---- names

-- `a` to `z`
abbrev pub is_small_letter : ℕ → Bool
is_small_letter c = nat_le 97 c && nat_le c 122

-- a lower-case letter, a decimal digit or `_`
abbrev pub is_name_byte : ℕ → Bool
is_name_byte c = is_small_letter c || (nat_le 48 c && nat_le c 57) || c == 95

-- a Name: a lower-case letter, then lower-case letters, digits or `_`, up to 16 bytes in all
abbrev pub is_name : List ℕ → Bool
is_name [] = false
is_name (c ∷ cs) = is_small_letter c && nat_lt (length cs) LONGEST_NAME && list_all is_name_byte cs

-- ---- words

-- an atom: `x:` and the bytes' hexadecimal digits; `rep:`, the byte's two digits, `*` and a Number;
-- or a Name
abbrev pub SpellsAtom : Atom → List ℕ → Type 0
SpellsAtom (Literal bytes) word =
    (digits : List ℕ) × (word ≡ codes "x:" ++ digits) × (decode_of digits ≡ Ok bytes)
SpellsAtom (Repeated byte count) word = (digits : List ℕ) × (number : List ℕ)
    × (word ≡ codes "rep:" ++ digits ++ codes "*" ++ number) × (decode_of digits ≡ Ok (byte ∷ []))
    × (number_of number ≡ Some count)
SpellsAtom (Named name) word = (word ≡ name) × (is_name name ≡ true)

-- a suffix: `[A..B]` or `~N`, of Numbers
abbrev pub SpellsSuffix : Suffix → List ℕ → Type 0
SpellsSuffix (Cut from to) word = (a : List ℕ) × (b : List ℕ)
    × (word ≡ codes "[" ++ a ++ codes ".." ++ b ++ codes "]") × (number_of a ≡ Some from)
    × (number_of b ≡ Some to)
SpellsSuffix (Flip at) word = (n : List ℕ) × (word ≡ codes "~" ++ n) × (number_of n ≡ Some at)

-- suffixes, one after another
abbrev pub SpellsSuffixes : List Suffix → List ℕ → Type 0
SpellsSuffixes [] word = word ≡ []
SpellsSuffixes (suffix ∷ suffixes) word = (first : List ℕ) × (rest : List ℕ)
    × (word ≡ first ++ rest) × SpellsSuffix suffix first × SpellsSuffixes suffixes rest

-- a term: its atom, and then its suffixes
abbrev pub SpellsTerm : Term → List ℕ → Type 0
SpellsTerm term word =
    (first : List ℕ) × (rest : List ℕ) × (word ≡ first ++ rest) × SpellsAtom term.atom first
    × SpellsSuffixes term.suffixes rest

-- an Expression: one term or more, values_of by `+`
abbrev pub SpellsExpression : List Term → List ℕ → Type 0
SpellsExpression [] word = ⊥
SpellsExpression (term ∷ []) word = SpellsTerm term word
SpellsExpression (term ∷ next ∷ terms) word = (first : List ℕ) × (rest : List ℕ)
    × (word ≡ first ++ codes "+" ++ rest) × SpellsTerm term first
    × SpellsExpression (next ∷ terms) rest
