-- Which bytes of an atom's value remain after its suffixes, and what is done to them.
use Rattle.std.specs.Prelude.{◌≡◌, ℕ, ◌+◌, ◌-◌, ◌≤◌, nat_le, nat_lt, ◌&&◌, List, [], ◌∷◌, ◌++◌, length, replicate, slice_index, slice_set, IfSome, Result, Ok, Err, if◌then◌else◌}
use Rattle.flk_base.specs.Checks.{◌>>=◌}
use Rattle.expr_text.specs.Expressions.{Suffix, Cut, Flip, Term}
use Rattle.expr_text.specs.Variables.{Table}
use Rattle.expr_text.specs.SeenExpressions.{expr_fault}
use Rattle.expr_text.specs.Values.{flip_of, term_value}
use Rattle.expr_text.specs.declared.value.TheConstants.{LONGEST_VALUE}
use Rattle.expr_text.specs.declared.value.ExprFault.{ExprFault}
use Rattle.expr_text.specs.declared.value.ExprFault.TheVariants.{Range, Long}
use Rattle.expr_text.specs.declared.value.ExprError.{ExprError}
use Rattle.expr_text.specs.declared.value.Window.{Window}
use Rattle.expr_text.specs.declared.value.Source.{Source}
use Rattle.expr_text.specs.declared.value.Source.TheVariants as source

-- the bytes that a source stands for
abbrev pub source_bytes : Source → List ℕ
source_bytes (source.Given bytes) = bytes.now
source_bytes (source.Repeated byte count) = replicate count byte

-- the length of a value, or the fault
abbrev pub length_of : Result (List ℕ) ExprFault → Result ℕ ExprFault
length_of (Ok bytes) = Ok (length bytes)
length_of (Err fault) = Err fault

-- what a suffix leaves of a window
abbrev pub window_after : Suffix → Window → Result Window ExprFault
window_after (Cut from to) window =
    if nat_le from to && nat_le to window.len
    then Ok (record { from = window.from + from; len = to - from }) else Err Range
window_after (Flip at) window = if nat_lt at window.len then Ok window else Err Range

-- what suffixes leave of it, from the left
abbrev pub window_after_all : List Suffix → Window → Result Window ExprFault
window_after_all [] window = Ok window
window_after_all (suffix ∷ suffixes) window =
    window_after suffix window >>= window_after_all suffixes

-- all of a value of this length
abbrev pub whole_window : ℕ → Window
whole_window len = record { from = 0; len = len }

-- the indices that suffixes name, after a window that begins at one, are not past an end
abbrev pub IsWithin : List Suffix → ℕ → ℕ → Type 0
IsWithin [] base end = base ≤ end
IsWithin (Cut from to ∷ suffixes) base end =
    (base + from ≤ end) × IsWithin suffixes (base + from) end
IsWithin (Flip at ∷ suffixes) base end = (base + at ≤ end) × IsWithin suffixes base end

-- a part with one byte flip_of, where that byte stands in it: the part begins at a position
abbrev pub flip_at : ℕ → ℕ → List ℕ → List ℕ
flip_at position start part =
    if nat_le start position
    then slice_set part (position - start) (flip_of (slice_index part (position - start)))
    else part

-- a part of an atom's value, which begins at a position of it, after a suffix of a window that
-- begins at another
abbrev pub change_by : Suffix → ℕ → ℕ → List ℕ → List ℕ
change_by (Cut from to) base start part = part
change_by (Flip at) base start part = flip_at (base + at) start part

-- where the window begins after the suffix
abbrev pub start_after : Suffix → ℕ → ℕ
start_after (Cut from to) base = base + from
start_after (Flip at) base = base

-- the part after suffixes
abbrev pub changes_by : List Suffix → ℕ → ℕ → List ℕ → List ℕ
changes_by [] base start part = part
changes_by (suffix ∷ suffixes) base start part =
    changes_by suffixes (start_after suffix base) start (change_by suffix base start part)

-- the values of terms together, however long
abbrev pub values_of : Table → List Term → Result (List ℕ) ExprFault
values_of table [] = Ok []
values_of table (term ∷ terms) =
    term_value table term >>= λ bytes. values_of table terms >>= λ more. Ok (bytes ++ more)

-- the length of the sum, after this many bytes
abbrev pub sum_length : Table → ℕ → List Term → Result ℕ ExprFault
sum_length table before [] = Ok before
sum_length table before (term ∷ terms) =
    length_of (term_value table term) >>= λ len.
    if nat_le (before + len) LONGEST_VALUE then sum_length table (before + len) terms else Err Long

-- what a function appended, and what it returned, where this was to be appended
abbrev pub Appends : Result (Unit {0}) ExprError → Result (List ℕ) ExprFault → List ℕ → List ℕ
    → Type 0
Appends (Ok _) value old new = (bytes : List ℕ) × (value ≡ Ok bytes) × (new ≡ old ++ bytes)
Appends (Err error) value old new = IfSome (expr_fault error) (λ fault. value ≡ Err fault)
