-- Reading words one after another.
use Rattle.std.proofs.Common.{◌≡◌, ℕ, List, [], ◌∷◌, ◌++◌, map, refl, sym, ap, ◌∙◌, append_assoc, append-nil}
use Rattle.std.specs.Prelude.{Option, Some, None, option_map}
use Rattle.expr_text.specs.ExpressionReading.{all_of}

-- what was read, and what is read after it
abbrev pub after : {A : Type 0} → List A → Option (List A) → Option (List A)
after xs more = option_map (λ ys. xs ++ ys) more

after_one : {A : Type 0} (xs : List A) (x : A) (o : Option (List A))
    → after xs (option_map (λ ys. x ∷ ys) o) ≡ after (xs ++ x ∷ []) o
after_one xs x None = refl
after_one xs x (Some ys) = ap (λ zs. Some zs) (sym (append_assoc xs (x ∷ []) ys))

map_one : {K A : Type 0} (seen : K → A) (items : List K) (k : K)
    → map seen (items ++ k ∷ []) ≡ map seen items ++ seen k ∷ []
map_one seen [] k = refl
map_one seen (x ∷ items) k = ap (λ ys. seen x ∷ ys) (map_one seen items k)

module _ {K A : Type 0} (read : List ℕ → Option A) (seen : K → A) (items : List K) (word : List ℕ)
    (pieces rest : List (List ℕ)) (all : Option (List A)) where
  -- one more word is read
  pub read_step : (new : List K) (k : K) → pieces ≡ word ∷ rest → new ≡ items ++ k ∷ []
      → read word ≡ Some (seen k)
      → after (map seen items) (all_of read pieces) ≡ all
      → after (map seen new) (all_of read rest) ≡ all
  read_step new k more pushed is before =
      ap (λ ys. after ys (all_of read rest)) (ap (map seen) pushed ∙ map_one seen items k)
      ∙ sym (after_one (map seen items) (seen k) (all_of read rest))
      ∙ rw (more, is) at before

  -- a word has no reading
  pub read_fault : pieces ≡ word ∷ rest → read word ≡ None
      → after (map seen items) (all_of read pieces) ≡ all → all ≡ None
  read_fault more none before = sym (rw (more, none) at before)

  -- no word is left
  pub read_end : pieces ≡ [] → after (map seen items) (all_of read pieces) ≡ all
      → all ≡ Some (map seen items)
  read_end last before = sym (rw last at before) ∙ ap (λ ys. Some ys) (append-nil (map seen items))
