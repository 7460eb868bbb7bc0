-- The expression that a word spells, if it spells one: cut at `+`, then before each suffix.
use Rattle.std.specs.Prelude.{ℕ, ◌-◌, ◌==◌, ◌||◌, nat_eq, Bool, List, [], ◌∷◌, length, take, drop, slice_index, codes, Option, Some, None, option_and_then, option_map, Result, Ok, Err, if◌then◌else◌, ◌≡◌}
use Rattle.std.specs.Result.{result_ok}
use Rattle.std.specs.List.{slice_split, onto_first, starts_with}
use Rattle.hex.specs.Hex.{decode_of}
use Rattle.expr_text.specs.Numbers.{number_of}
use Rattle.expr_text.specs.Expressions.{Atom, Literal, Repeated, Named, Suffix, Cut, Flip, Term, is_name}
use Rattle.expr_text.specs.declared.expression.Unread.{Unread}
use Rattle.expr_text.specs.declared.expression.Unread.TheVariants.{Spelling, NoMemory}

-- a function of two values, where there are both
abbrev pub both : {A B C : Type 0} → (A → B → C) → Option A → Option B → Option C
both f a b = option_and_then (λ x. option_map (f x) b) a

-- each word's reading, where every word has one
abbrev pub all_of : {A : Type 0} → (List ℕ → Option A) → List (List ℕ) → Option (List A)
all_of read [] = Some []
all_of read (word ∷ words) = both (λ x xs. x ∷ xs) (read word) (all_of read words)

-- `[` and `~` begin a suffix
abbrev pub opens : ℕ → Bool
opens c = c == 91 || c == 126

-- a term's text cut before each `[` and `~`: the atom, and then the suffixes
abbrev pub parts : List ℕ → List (List ℕ)
parts [] = [] ∷ []
parts (c ∷ cs) = if opens c then [] ∷ onto_first c (parts cs) else onto_first c (parts cs)

-- what stands after `rep:`
abbrev pub repeated_in : List ℕ → Option Atom
repeated_in text =
    if slice_index text 2 == 42
    then both (λ bytes count. Repeated (slice_index bytes 0) count)
    (result_ok (decode_of (take 2 text))) (number_of (drop 3 text))
    else None

abbrev pub atom_in : List ℕ → Option Atom
atom_in word =
    if starts_with nat_eq word (codes "x:")
    then option_map Literal (result_ok (decode_of (drop 2 word)))
    else if starts_with nat_eq word (codes "rep:") then repeated_in (drop 4 word)
    else if is_name word then Some (Named word)
    else None

-- what stands between the brackets, cut at the dots
abbrev pub bounds_in : List (List ℕ) → Option Suffix
bounds_in (from ∷ [] ∷ to ∷ []) = both Cut (number_of from) (number_of to)
bounds_in other = None

-- what stands after `[`
abbrev pub cut_in : List ℕ → Option Suffix
cut_in text =
    if slice_index text (length text - 1) == 93
    then bounds_in (slice_split (λ c. c == 46) (take (length text - 1) text)) else None

abbrev pub suffix_in : List ℕ → Option Suffix
suffix_in [] = None
suffix_in (c ∷ text) =
    if c == 91 then cut_in text else if c == 126 then option_map Flip (number_of text) else None

abbrev pub term_of_parts : List (List ℕ) → Option Term
term_of_parts [] = None
term_of_parts (first ∷ others) =
    both (λ atom suffixes. record { atom = atom; suffixes = suffixes }) (atom_in first)
    (all_of suffix_in others)

abbrev pub term_in : List ℕ → Option Term
term_in text = term_of_parts (parts text)

-- the terms of an Expression
abbrev pub expression_of : List ℕ → Option (List Term)
expression_of word = all_of term_in (slice_split (λ c. c == 43) word)

-- what a reader returned, seen by view, is what there is to read, unless memory ran out
abbrev pub Reads : {X Y : Type 0} → (X → Y) → Result X Unread → Option Y → Type 0
Reads view (Ok x) read = read ≡ Some (view x)
Reads view (Err Spelling) read = read ≡ None
Reads view (Err NoMemory) read = Unit {0}
