-- The marks of single frames, in a list that is made of others.
use Rattle.std.proofs.Common.{◌≡◌, ℕ, zero, suc, ◌+◌, ◌<◌, List, [], ◌∷◌, ◌++◌, length, take, drop}
use Rattle.std.proofs.Common.{replicate, refl, ap, arith, Some, slice_get}

pub slice_get-take : {A : Type 0} (n : ℕ) (xs : List A) (k : ℕ) → k < n
    → slice_get (take n xs) k ≡ slice_get xs k
slice_get-take zero xs k h = absurd (omega arith)
slice_get-take (suc n) [] k h = refl
slice_get-take (suc n) (x ∷ xs) zero h = refl
slice_get-take (suc n) (x ∷ xs) (suc k) h = slice_get-take n xs k (omega arith)

pub slice_get-drop : {A : Type 0} (n : ℕ) (xs : List A) (k j : ℕ) → n + k ≡ j
    → slice_get (drop n xs) k ≡ slice_get xs j
slice_get-drop zero xs k j e = ap (slice_get xs) (omega arith)
slice_get-drop (suc n) [] k j e = refl
slice_get-drop (suc n) (x ∷ xs) k zero e = absurd (omega arith)
slice_get-drop (suc n) (x ∷ xs) k (suc j) e = slice_get-drop n xs k j (omega arith)

pub slice_get-append_left : {A : Type 0} (xs ys : List A) (k : ℕ) → k < length xs
    → slice_get (xs ++ ys) k ≡ slice_get xs k
slice_get-append_left [] ys k h = absurd (omega arith)
slice_get-append_left (x ∷ xs) ys zero h = refl
slice_get-append_left (x ∷ xs) ys (suc k) h = slice_get-append_left xs ys k (omega arith)

pub slice_get-append_right : {A : Type 0} (xs ys : List A) (k j : ℕ) → length xs + k ≡ j
    → slice_get (xs ++ ys) j ≡ slice_get ys k
slice_get-append_right [] ys k j e = ap (slice_get ys) (omega arith)
slice_get-append_right (x ∷ xs) ys k zero e = absurd (omega arith)
slice_get-append_right (x ∷ xs) ys k (suc j) e = slice_get-append_right xs ys k j (omega arith)

pub slice_get-replicate : {A : Type 0} (n : ℕ) (x : A) (k : ℕ) → k < n
    → slice_get (replicate n x) k ≡ Some x
slice_get-replicate zero x k h = absurd (omega arith)
slice_get-replicate (suc n) x zero h = refl
slice_get-replicate (suc n) x (suc k) h = slice_get-replicate n x k (omega arith)

-- lists of one length with the same elements
pub same_at_each : {A : Type 0} (xs ys : List A) → length xs ≡ length ys
    → ((k : ℕ) → k < length xs → slice_get xs k ≡ slice_get ys k) → xs ≡ ys
same_at_each [] [] e h = refl
same_at_each [] (y ∷ ys) e h = absurd (omega arith)
same_at_each (x ∷ xs) [] e h = absurd (omega arith)
same_at_each (x ∷ xs) (y ∷ ys) e h =
    let here = h 0 (omega arith) in
    let rest = same_at_each xs ys (omega arith) (λ k l. h (suc k) (omega arith)) in
    cc
