-- A text that has code begins well.
use Rattle.std.proofs.Common.{◌≡◌, ℕ, ◌+◌, ◌≤◌, List, [], ◌∷◌, length, refl, arith}
use Rattle.std.specs.Prelude.{Result, Ok, Err, IsOk}
use Rattle.std.proofs.lemmas.Bool.Decides.{nat_tests}
use Rattle.flk_base.specs.Checks.{◌>>=◌}
use Rattle.pal_asm.specs.declared.fault.AsmKind.{AsmKind}
use Rattle.pal_asm.specs.declared.fault.AsmKind.TheVariants as kind
use Rattle.pal_asm.specs.Lines.{lines}
use Rattle.pal_asm.specs.Tokens.{Token}
use Rattle.pal_asm.specs.Assembling.{Line, Draft, no_lines, or_others, line_alone, first_tokens, unless, is_defined, label_in, word_in, statement_in, line_in, with_line, at_line, line_tokens, draft_of, code_of}
use Rattle.flk_filters.specs.Filters.{at_most}

-- what the first of two checks gave, where the second gave something
first_gives : {A B E : Type 0} (r : Result A E) (f : A → Result B E) (y : B) → (r >>= f) ≡ Ok y
    → (x : A) × (r ≡ Ok x) × (f x ≡ Ok y)
first_gives (Ok x) f y h = (x, refl, h)
first_gives (Err e) f y h = cc h

fault_free : (n : ℕ) (r : Result Line AsmKind) (l : Line) → at_line n r ≡ Ok l
    → (line : Line) × (r ≡ Ok line)
fault_free n (Ok line) l h = (line, refl)
fault_free n (Err k) l h = cc h

-- a line without a fault has none by itself
good_line : (before : Draft) (ts : List Token) (l : Line) → line_in before ts ≡ Ok l
    → IsOk (line_alone ts)
good_line before ts l h =
    let label = first_gives (label_in ts) _ l h in
    let word = first_gives (word_in label.0.1) _ l label.2 in
    let name =
    first_gives (unless (is_defined before.labels label.0.0) kind.Twice label.0.0) _ l word.2 in
    let statement = first_gives (statement_in word.0) _ l name.2 in
    rw (label.1, word.1, statement.1) refl

first_of_both : (ts others : List Token) → IsOk (line_alone ts) → IsOk (line_alone others)
    → IsOk (line_alone (or_others ts others))
first_of_both [] others one rest = rest
first_of_both (t ∷ ts) others one rest = one

good_lines : (n : ℕ) (before all : Draft) (ls : List (List ℕ)) → draft_of n before ls ≡ Ok all
    → IsOk (line_alone (first_tokens ls))
good_lines n before all [] h = refl
good_lines n before all (line ∷ rest) h =
    let first = first_gives (at_line n (line_in before (line_tokens line))) _ all h in
    let good = fault_free n (line_in before (line_tokens line)) first.0 first.1 in
    first_of_both (line_tokens line) (first_tokens rest)
    (good_line before (line_tokens line) good.0 good.1)
    (good_lines (n + 1) (with_line n before first.0) all rest first.2)

-- nothing is wrong with the first line of a text that has code
pub begins_well : (text code : List ℕ) → code_of text ≡ Ok code
    → IsOk (line_alone (first_tokens (lines text)))
begins_well text code h = let draft =
    first_gives (draft_of 1 no_lines (lines text)) _ code h in
    good_lines 1 no_lines draft.0 (lines text) draft.1

-- bytes that are not too many
pub not_too_long : (most : ℕ) (bytes : List ℕ) → length bytes ≤ most → at_most most bytes ≡ Ok bytes
not_too_long most bytes h = grind (arith, nat_tests)
