-- The pieces of a text that are left, for the cursors over them.
use Rattle.std.specs.Prelude.{ℕ, ◌==◌, List, [], ◌∷◌, Option, Some, None}
use Rattle.std.specs.Option.{option_copied}
use Rattle.std.specs.List.{slice_split, onto_first}
use Rattle.expr_text.specs.ExpressionReading.{parts}
use Rattle.expr_text.specs.declared.pieces.Pieces.TheInside as pieces

-- the pieces between two of this byte
abbrev pub pieces_at : ℕ → List ℕ → List (List ℕ)
pieces_at separator text = slice_split (λ c. c == separator) text

-- the suffixes of a term, from the first of them on
abbrev pub suffix_words : List ℕ → List (List ℕ)
suffix_words [] = []
suffix_words (c ∷ cs) = onto_first c (parts cs)

-- the pieces of a text that may be used up
abbrev pub pieces_of : ℕ → Option (List ℕ) → List (List ℕ)
pieces_of separator None = []
pieces_of separator (Some text) = pieces_at separator text

-- the pieces that are left
abbrev pub pieces_left : pieces.Inside → List (List ℕ)
pieces_left p = pieces_of p.separator (option_copied p.rest)
