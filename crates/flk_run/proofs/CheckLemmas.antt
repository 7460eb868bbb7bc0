-- The check of a quote: the session that is described, and the values of its texts.
use Rattle.std.proofs.Common.{◌≡◌, ℕ, zero, suc, ◌+◌, ◌<◌, List, [], ◌∷◌, ◌++◌, map, get_or, length}
use Rattle.std.proofs.Common.{Some, Result, Ok, Err, refl, sym, ap, ◌∙◌, append_assoc, arith}
use Rattle.std.specs.Prelude.{take, drop, slice_get}
use Rattle.std.proofs.lemmas.List.{take_more, map-append}
use Rattle.flk_base.specs.Buffer.{Buffer}
use Rattle.flk_base.specs.Checks.{◌>>=◌}
use Rattle.tpm_state.specs.Chain.{value, extended_value}
use Rattle.tpm_state.specs.Sessions.{pal_text, running_chain}
use Rattle.quote_check.proofs.Chains.{running-more}
use Rattle.expr_text.specs.Expressions.{Term}
use Rattle.expr_text.specs.Variables.{Table}
use Rattle.expr_text.specs.Values.{value_of}
use Rattle.expr_text.specs.declared.value.ExprFault.{ExprFault}
use Rattle.flk_run.specs.Tasks.{values_of}

-- the bytes of texts
abbrev pub bytes_of : List Buffer → List (List ℕ)
bytes_of texts = map (λ text. text.bytes) texts

-- one text more of a session that is described
pub described_more : (image : List ℕ) (texts : List Buffer) (i : ℕ) (text : Buffer)
    → i < length texts → get_or texts i text ≡ text
    → extended_value (value (running_chain image (bytes_of (take i texts)))) (pal_text text.bytes)
    ≡ value (running_chain image (bytes_of (take (i + 1) texts)))
described_more image texts i text there is =
    running-more image text.bytes (bytes_of (take i texts))
    ∙ ap (λ (all : List (List ℕ)). value (running_chain image all))
    (sym (ap bytes_of (take_more texts i text there ∙ ap (λ (one : Buffer). take i texts ++ one ∷ []) is)
    ∙ map-append (λ (text : Buffer). text.bytes) (take i texts) (text ∷ [])))

-- what is left of expressions begins with the next one
next_of : (all : List (List Term)) (i : ℕ) (terms : List Term) → slice_get all i ≡ Some terms
    → drop i all ≡ terms ∷ drop (i + 1) all
next_of [] i terms is = absurd (cc)
next_of (first ∷ others) zero terms is = let same : first ≡ terms = cc in rw same refl
next_of (first ∷ others) (suc i) terms is =
    let one : suc (i + 1) ≡ suc i + 1 = omega arith in
    next_of others i terms is ∙ ap (λ (n : ℕ). terms ∷ drop n (first ∷ others)) one

-- values that were found, before those that are left
abbrev pub with_values : List (List ℕ) → Result (List (List ℕ)) ExprFault → Result (List (List ℕ)) ExprFault
with_values made rest = rest >>= λ values. Ok (made ++ values)

-- one value more
pub values_more : (all : List (List Term)) (table : Table) (i : ℕ) (made : List (List ℕ)) (terms : List Term)
    (found : List ℕ) → slice_get all i ≡ Some terms → value_of terms table ≡ Ok found
    → with_values made (values_of (drop i all) table)
    ≡ with_values (made ++ found ∷ []) (values_of (drop (i + 1) all) table)
values_more all table i made terms found at is =
    ap (λ (rest : List (List Term)). with_values made (values_of rest table)) (next_of all i terms at)
    ∙ ap (λ (one : Result (List ℕ) ExprFault).
    with_values made (one >>= λ value. values_of (drop (i + 1) all) table >>= λ values. Ok (value ∷ values))) is
    ∙ by_rest (values_of (drop (i + 1) all) table) where
      by_rest : (rest : Result (List (List ℕ)) ExprFault)
          → with_values made (rest >>= λ values. Ok (found ∷ values)) ≡ with_values (made ++ found ∷ []) rest
      by_rest (Ok values) =
          ap (λ (all : List (List ℕ)). let end : Result (List (List ℕ)) ExprFault = Ok all in end)
          (sym (append_assoc made (found ∷ []) values))
      by_rest (Err fault) = refl

-- an expression that has no value
pub values_fault : (all : List (List Term)) (table : Table) (i : ℕ) (made : List (List ℕ)) (terms : List Term)
    (fault : ExprFault) → slice_get all i ≡ Some terms → value_of terms table ≡ Err fault
    → with_values made (values_of (drop i all) table) ≡ Err fault
values_fault all table i made terms fault at is =
    ap (λ (rest : List (List Term)). with_values made (values_of rest table)) (next_of all i terms at)
    ∙ ap (λ (one : Result (List ℕ) ExprFault).
    with_values made (one >>= λ value. values_of (drop (i + 1) all) table >>= λ values. Ok (value ∷ values))) is
