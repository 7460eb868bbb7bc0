-- Two lists of bytes are compared byte by byte, to the end.
use Rattle.std.proofs.Common.{◌≡◌, ℕ, ◌+◌, ◌<◌, ◌&&◌, Bool, true, false, eqb, List, length, get_or}
use Rattle.std.proofs.Common.{refl, sym, ◌∙◌, arith, below_more}
use Rattle.std.specs.Prelude.{bytes_eq}
use Rattle.std.proofs.lemmas.Bool.{and_parts, eqb-true, eq-eqb}
use Rattle.std.proofs.lemmas.List.{ext_get_or}
use Rattle.std.proofs.lemmas.Slice.Eq.{bytes_eq-Decides}

-- the test says whether the bytes below i are the same
pub record SameBelow (xs ys : List ℕ) (same : Bool) (i : ℕ) : Type 0 where
  pub found : same ≡ true → (k : ℕ) → k < i → get_or xs k 0 ≡ get_or ys k 0
  pub told : ((k : ℕ) → k < i → get_or xs k 0 ≡ get_or ys k 0) → same ≡ true

pub same_none : (xs ys : List ℕ) → SameBelow xs ys true 0
same_none xs ys = record { found = λ yes k h. absurd (omega arith); told = λ each. refl }

-- one byte more
pub same_more : (xs ys : List ℕ) (same : Bool) (i : ℕ) → SameBelow xs ys same i →
    SameBelow xs ys (same && eqb (get_or xs i 0) (get_or ys i 0)) (i + 1)
same_more xs ys same i below = record {
  found = λ yes.
      let parts = and_parts same (eqb (get_or xs i 0) (get_or ys i 0)) yes in
      below_more (λ k. get_or xs k 0 ≡ get_or ys k 0) i (below.found parts.0)
      (eqb-true _ _ parts.1);
  told = λ each.
      let before : same ≡ true = below.told (λ k h. each k (omega arith)) in
      let here : eqb (get_or xs i 0) (get_or ys i 0) ≡ true = eq-eqb _ _ (each i (omega arith)) in
      rw (before, here) refl;
}

-- all bytes
pub same_all : (xs ys : List ℕ) (same : Bool) (n : ℕ) → length xs ≡ n → length ys ≡ n →
    SameBelow xs ys same n → same ≡ bytes_eq xs ys
same_all xs ys true n long too below =
    sym ((bytes_eq-Decides xs ys).1 (ext_get_or 0 xs ys (long ∙ sym too)
    (λ k h. below.found refl k (omega arith))))
same_all xs ys false n long too below = by_test (bytes_eq xs ys) refl where
  by_test : (b : Bool) → bytes_eq xs ys ≡ b → false ≡ b
  by_test false is = refl
  by_test true is =
      let same : xs ≡ ys = (bytes_eq-Decides xs ys).0 is in
      below.told (λ k h. rw same refl)
