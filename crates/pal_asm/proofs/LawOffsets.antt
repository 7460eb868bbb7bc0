-- The offset that lines reach is 32 plus the length of their code.
use Rattle.std.proofs.Common.{◌≡◌, ℕ, ◌+◌, List, [], ◌∷◌, ◌++◌, length, refl, sym, ap, ◌∙◌, subst, arith}
use Rattle.std.specs.Prelude.{Option, Some, None, option_map, Result, Ok, Err}
use Rattle.std.specs.List.{sum_by}
use Rattle.std.proofs.lemmas.List.{length-append}
use Rattle.std.proofs.lemmas.List.Sums.{sum_by-append, sum_by-cons}
use Rattle.flk_base.specs.Checks.{◌>>=◌}
use Rattle.pal_asm.specs.declared.fault.AsmFault.{AsmFault}
use Rattle.pal_asm.specs.declared.fault.AsmKind.TheVariants as kind
use Rattle.pal_asm.specs.declared.names.Branch.TheVariants as branch
use Rattle.pal_asm.specs.declared.name.Name.{Name}
use Rattle.pal_asm.specs.Statements.{Statement, Whole, LoadLabel, PushLabel, Jump, Bytes, Long, Zeros, bytes_at, size_of, label_of}
use Rattle.pal_asm.specs.Assembling.{Line, PlacedStatement, Draft, code_start, no_lines, awaited, at_line, or_fault, line_in, line_tokens, with_line, draft_of, code_with}
use Rattle.pal_asm.specs.Laws.{OffsetsAreLengths}

-- a statement has its size whatever its label's value and wherever it stands
size_stays : (s : Statement) (at value : ℕ) → length (bytes_at at value s) ≡ size_of s
size_stays (Whole ins) at value = refl
size_stays (LoadLabel r name) at value = refl
size_stays (PushLabel name) at value = refl
size_stays (Jump branch.Jmp t) at value = refl
size_stays (Jump (branch.Jcc c) t) at value = refl
size_stays (Jump branch.Call t) at value = refl
size_stays (Bytes bytes) at value = refl
size_stays (Long n) at value = refl
size_stays (Zeros n) at value = refl

abbrev size_at : PlacedStatement → ℕ
size_at p = size_of p.statement

-- ---- the second pass

abbrev joined : Option ℕ → PlacedStatement → Result (List ℕ) AsmFault → Result (List ℕ) AsmFault
joined value p rest =
    at_line p.line (or_fault kind.Label (option_map (λ v. bytes_at p.at v p.statement) value)) >>=
    λ bytes. rest >>= λ more. Ok (bytes ++ more)

joined_length : (value : Option ℕ) (p : PlacedStatement) (rest : Result (List ℕ) AsmFault) (n : ℕ)
    (code : List ℕ)
    → ((more : List ℕ) → rest ≡ Ok more → length more ≡ n) → joined value p rest ≡ Ok code
    → length code ≡ size_at p + n
joined_length None p rest n code h e = cc
joined_length (Some v) p (Err fault) n code h e = cc
joined_length (Some v) p (Ok more) n code h e =
    let same : bytes_at p.at v p.statement ++ more ≡ code = cc in
    sym (ap length same) ∙ length-append (bytes_at p.at v p.statement) more
    ∙ ap (λ k. k + length more) (size_stays p.statement p.at v)
    ∙ ap (λ k. size_at p + k) (h more refl)

code_length : (labels : List (Name × ℕ)) (ps : List PlacedStatement) (code : List ℕ)
    → code_with labels ps ≡ Ok code → length code ≡ sum_by size_at ps
code_length labels [] code e = let none : code ≡ [] = cc in ap length none
code_length labels (p ∷ ps) code e =
    joined_length (awaited labels (label_of p.statement)) p (code_with labels ps)
    (sum_by size_at ps) code (code_length labels ps) e ∙ sym (sum_by-cons size_at p ps)

-- ---- the first pass

abbrev Reaches : Draft → Type 0
Reaches draft = draft.end ≡ code_start + sum_by size_at draft.placed

with_one : (n : ℕ) (before : Draft) (label : Option Name) (s : Option Statement) → Reaches before
    → Reaches (with_line n before (record { label = label; statement = s }))
with_one n before label None h = omega (arith, h)
with_one n before label (Some s) h =
    let p : PlacedStatement = record { line = n; at = before.end; statement = s } in
    omega (arith, h, sum_by-append size_at before.placed (p ∷ []), sum_by-cons size_at p [])

first_line : (n : ℕ) (before after : Draft) (rest : List (List ℕ)) (line : Result Line AsmFault)
    → ((next : Draft) → Reaches next → draft_of (n + 1) next rest ≡ Ok after → Reaches after)
    → Reaches before → (line >>= λ l. draft_of (n + 1) (with_line n before l) rest) ≡ Ok after
    → Reaches after
first_line n before after rest (Err fault) ih h e = cc
first_line n before after rest (Ok l) ih h e =
    ih (with_line n before l) (with_one n before l.label l.statement h) e

all_lines : (n : ℕ) (before after : Draft) (ls : List (List ℕ)) → Reaches before
    → draft_of n before ls ≡ Ok after → Reaches after
all_lines n before after [] h e = let same : before ≡ after = cc in subst Reaches same h
all_lines n before after (line ∷ rest) h e =
    first_line n before after rest (at_line n (line_in before (line_tokens line)))
    (λ next g f. all_lines (n + 1) next after rest g f) h e

pub offsets_are_lengths : OffsetsAreLengths
offsets_are_lengths ls draft labels code e c =
    all_lines 1 no_lines draft ls refl e
    ∙ ap (λ k. code_start + k) (sym (code_length labels draft.placed code c))
