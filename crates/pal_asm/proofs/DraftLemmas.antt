-- A line with which the code is not too long, and the second pass, a statement at a time.
use Rattle.std.proofs.Common.{◌≡◌, ◌≢◌, ℕ, ◌+◌, ◌<◌, ◌≤◌, List, [], ◌∷◌, ◌++◌, length, get_or, drop, map, refl, sym, ap, ◌∙◌, append_assoc, false, arith}
use Rattle.std.specs.Prelude.{Option, Result, Ok, Err, nat_lt}
use Rattle.std.proofs.lemmas.Bool.Decides.{nat_tests}
use Rattle.std.proofs.lemmas.List.{drop_more, drop-map}
use Rattle.flk_base.specs.Checks.{◌>>=◌}
use Rattle.pal_asm.specs.declared.fault.AsmFault.{AsmFault}
use Rattle.pal_asm.specs.declared.fault.AsmError.{AsmError}
use Rattle.pal_asm.specs.declared.fault.AsmError.TheVariants.{At, NoMemory}
use Rattle.pal_asm.specs.declared.name.Name.{Name}
use Rattle.pal_asm.specs.Seen.{Refuses}
use Rattle.pal_asm.specs.declared.placed.PlacedStatement.{PlacedStatement as Held}
use Rattle.pal_asm.specs.Statements.{Statement}
use Rattle.pal_asm.specs.Assembling.{most_end, PlacedStatement, Draft, line_size, sized_line, placed_bytes, code_with}
use Rattle.pal_asm.specs.SeenDraft.{placed_view}

not_long : (n : ℕ) → n ≤ most_end → nat_lt most_end n ≡ false
not_long n h = grind (arith, nat_tests)

-- the code is not too long with a line
pub fits : (before : Draft) (label : Option Name) (s : Option Statement)
    → before.end + line_size s ≤ most_end
    → sized_line before label s ≡ Ok (record { label = label; statement = s })
fits before label s h = rw (not_long (before.end + line_size s) h) refl

-- ---- the second pass

-- a statement is placed
pub some_placed : (items : List Held) (placed : List PlacedStatement) (i : ℕ)
    → map placed_view items ≡ placed → i < length items → placed ≢ []
some_placed [] placed i e l none = omega (arith, l)
some_placed (p ∷ ps) placed i e l none = let h = e ∙ none in cc

-- code after other code
abbrev pub with_code : List ℕ → Result (List ℕ) AsmFault → Result (List ℕ) AsmFault
with_code code answer = answer >>= λ rest. Ok (code ++ rest)

with_code_twice : (a b : List ℕ) (r : Result (List ℕ) AsmFault)
    → with_code a (with_code b r) ≡ with_code (a ++ b) r
with_code_twice a b (Ok rest) = ap Ok (sym (append_assoc a b rest))
with_code_twice a b (Err e) = refl

-- what is left of the statements from the i-th on
left : (items : List Held) (placed : List PlacedStatement) (i : ℕ) (p : Held)
    → map placed_view items ≡ placed → i < length items → p ≡ get_or items i p
    → drop i placed ≡ placed_view p ∷ drop (i + 1) placed
left items placed i p e l h =
    let one : drop i items ≡ p ∷ drop (i + 1) items =
    drop_more items i p l ∙ ap (λ x. x ∷ drop (i + 1) items) (sym h) in
    ap (drop i) (sym e) ∙ drop-map placed_view i items ∙ ap (map placed_view) one
    ∙ ap (λ xs. placed_view p ∷ xs) (sym (drop-map placed_view (i + 1) items)
    ∙ ap (drop (i + 1)) e)

pub more_code : (items : List Held) (placed : List PlacedStatement) (labels : List (Name × ℕ))
    (i : ℕ) (p : Held) (old new bytes : List ℕ)
    → map placed_view items ≡ placed → i < length items → p ≡ get_or items i p
    → placed_bytes labels (placed_view p) ≡ Ok bytes → new ≡ old ++ bytes
    → code_with labels placed ≡ with_code old (code_with labels (drop i placed))
    → code_with labels placed ≡ with_code new (code_with labels (drop (i + 1) placed))
more_code items placed labels i p old new bytes e l h b n ih =
    let here : code_with labels (placed_view p ∷ drop (i + 1) placed)
    ≡ with_code bytes (code_with labels (drop (i + 1) placed)) =
    ap (λ r. r >>= λ xs. with_code xs (code_with labels (drop (i + 1) placed))) b in
    ih ∙ ap (λ ps. with_code old (code_with labels ps)) (left items placed i p e l h)
    ∙ ap (with_code old) here
    ∙ with_code_twice old bytes (code_with labels (drop (i + 1) placed))
    ∙ ap (λ xs. with_code xs (code_with labels (drop (i + 1) placed))) (sym n)

no_code : (items : List Held) (placed : List PlacedStatement) (labels : List (Name × ℕ)) (i : ℕ)
    (p : Held) (old : List ℕ) (fault : AsmFault)
    → map placed_view items ≡ placed → i < length items → p ≡ get_or items i p
    → placed_bytes labels (placed_view p) ≡ Err fault
    → code_with labels placed ≡ with_code old (code_with labels (drop i placed))
    → code_with labels placed ≡ Err fault
no_code items placed labels i p old fault e l h b ih =
    ih ∙ ap (λ ps. with_code old (code_with labels ps)) (left items placed i p e l h)
    ∙ ap (λ r. with_code old (r >>= λ xs. with_code xs
    (code_with labels (drop (i + 1) placed)))) b

pub refused : (items : List Held) (placed : List PlacedStatement) (labels : List (Name × ℕ)) (i : ℕ)
    (p : Held) (old : List ℕ) (error : AsmError)
    → map placed_view items ≡ placed → i < length items → p ≡ get_or items i p
    → Refuses error (placed_bytes labels (placed_view p))
    → code_with labels placed ≡ with_code old (code_with labels (drop i placed))
    → Refuses error (code_with labels placed)
refused items placed labels i p old (At fault) e l h b ih =
    no_code items placed labels i p old fault e l h b ih
refused items placed labels i p old NoMemory e l h b ih = tt
