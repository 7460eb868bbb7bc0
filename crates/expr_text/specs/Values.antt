-- The value of an expression.
use Rattle.std.specs.Prelude.{ℕ, ◌+◌, nat_le, nat_lt, ◌&&◌, List, [], ◌∷◌, ◌++◌, length, replicate, slice_index, slice_range, slice_set, bit_xor, Result, Ok, Err, if◌then◌else◌}
use Rattle.std.specs.Option.{ok_or}
use Rattle.std.specs.FinMap.{get}
use Rattle.flk_base.specs.Checks.{◌>>=◌}
use Rattle.expr_text.specs.Expressions.{Atom, Literal, Repeated, Named, Suffix, Cut, Flip, Term}
use Rattle.expr_text.specs.Variables.{Table}
use Rattle.expr_text.specs.declared.value.TheConstants.{LONGEST_VALUE}
use Rattle.expr_text.specs.declared.value.ExprFault.{ExprFault}
use Rattle.expr_text.specs.declared.value.ExprFault.TheVariants.{Name, Range, Long}

-- an atom: a name has the value that it is bound to
abbrev pub atom_value : Table → Atom → Result (List ℕ) ExprFault
atom_value table (Literal bytes) = Ok bytes
atom_value table (Repeated byte count) = Ok (replicate count byte)
atom_value table (Named name) = ok_or (get table name) Name

-- a byte with its lowest bit flip_of
abbrev pub flip_of : ℕ → ℕ
flip_of byte = bit_xor byte 1

-- what a suffix makes of a value: a cut may be empty and may end at the last byte
abbrev pub suffix_value : Suffix → List ℕ → Result (List ℕ) ExprFault
suffix_value (Cut from to) bytes =
    if nat_le from to && nat_le to (length bytes) then Ok (slice_range bytes from to) else Err Range
suffix_value (Flip at) bytes =
    if nat_lt at (length bytes) then Ok (slice_set bytes at (flip_of (slice_index bytes at)))
    else Err Range

-- what suffixes make of it, from the left
abbrev pub suffixes_value : List Suffix → List ℕ → Result (List ℕ) ExprFault
suffixes_value [] bytes = Ok bytes
suffixes_value (suffix ∷ suffixes) bytes = suffix_value suffix bytes >>= suffixes_value suffixes

-- a term: an atom alone may be longer than a term
abbrev pub term_value : Table → Term → Result (List ℕ) ExprFault
term_value table term = atom_value table term.atom >>= suffixes_value term.suffixes

-- the sum of these bytes and of terms, from the left; it may have as many bytes as a term
abbrev pub sum_value : Table → List ℕ → List Term → Result (List ℕ) ExprFault
sum_value table sum [] = Ok sum
sum_value table sum (term ∷ terms) =
    term_value table term >>= λ bytes.
    if nat_le (length sum + length bytes) LONGEST_VALUE then sum_value table (sum ++ bytes) terms
    else Err Long

-- the value of an expression, or its first fault from the left
abbrev pub value_of : List Term → Table → Result (List ℕ) ExprFault
value_of terms table = sum_value table [] terms
