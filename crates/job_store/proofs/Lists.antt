-- Single elements of a list that is made of others.
use Rattle.std.proofs.Common.{◌≡◌, ℕ, zero, suc, ◌+◌, ◌-◌, ◌<◌, ◌≤◌, List, [], ◌∷◌, ◌++◌, length}
use Rattle.std.proofs.Common.{take, drop, replicate, refl, ap, ◌∙◌, arith, Some, slice_get}
use Rattle.std.proofs.Common.{length-take, length-drop, length-append}
use Rattle.job_store.specs.Pieces.{part, written}

pub slice_get-take : {A : Type 0} (n : ℕ) (xs : List A) (k : ℕ) → k < n
    → slice_get (take n xs) k ≡ slice_get xs k
slice_get-take zero xs k h = absurd (omega arith)
slice_get-take (suc n) [] k h = refl
slice_get-take (suc n) (x ∷ xs) zero h = refl
slice_get-take (suc n) (x ∷ xs) (suc k) h = slice_get-take n xs k (omega arith)

pub slice_get-drop : {A : Type 0} (n : ℕ) (xs : List A) (k j : ℕ) → n + k ≡ j
    → slice_get (drop n xs) k ≡ slice_get xs j
slice_get-drop zero xs k j e = ap (slice_get xs) (omega arith)
slice_get-drop (suc n) [] k j e = refl
slice_get-drop (suc n) (x ∷ xs) k zero e = absurd (omega arith)
slice_get-drop (suc n) (x ∷ xs) k (suc j) e = slice_get-drop n xs k j (omega arith)

pub slice_get-append_left : {A : Type 0} (xs ys : List A) (k : ℕ) → k < length xs
    → slice_get (xs ++ ys) k ≡ slice_get xs k
slice_get-append_left [] ys k h = absurd (omega arith)
slice_get-append_left (x ∷ xs) ys zero h = refl
slice_get-append_left (x ∷ xs) ys (suc k) h = slice_get-append_left xs ys k (omega arith)

pub slice_get-append_right : {A : Type 0} (xs ys : List A) (k j : ℕ) → length xs + k ≡ j
    → slice_get (xs ++ ys) j ≡ slice_get ys k
slice_get-append_right [] ys k j e = ap (slice_get ys) (omega arith)
slice_get-append_right (x ∷ xs) ys k zero e = absurd (omega arith)
slice_get-append_right (x ∷ xs) ys k (suc j) e = slice_get-append_right xs ys k j (omega arith)

pub slice_get-replicate : {A : Type 0} (n : ℕ) (x : A) (k : ℕ) → k < n
    → slice_get (replicate n x) k ≡ Some x
slice_get-replicate zero x k h = absurd (omega arith)
slice_get-replicate (suc n) x zero h = refl
slice_get-replicate (suc n) x (suc k) h = slice_get-replicate n x k (omega arith)

-- lists of one length with the same elements
pub same_at_each : {A : Type 0} (xs ys : List A) → length xs ≡ length ys
    → ((k : ℕ) → k < length xs → slice_get xs k ≡ slice_get ys k) → xs ≡ ys
same_at_each [] [] e h = refl
same_at_each [] (y ∷ ys) e h = absurd (omega arith)
same_at_each (x ∷ xs) [] e h = absurd (omega arith)
same_at_each (x ∷ xs) (y ∷ ys) e h =
    let here = h 0 (omega arith) in
    let rest = same_at_each xs ys (omega arith) (λ k l. h (suc k) (omega arith)) in
    cc

-- a list is another but for a piece
pub record Writes {A : Type 0} (old new : List A) (at : ℕ) (piece : List A) : Type 0 where
  pub long : length new ≡ length old
  pub below : (k : ℕ) → k < at → slice_get new k ≡ slice_get old k
  pub inside : (k j : ℕ) → k < length piece → at + k ≡ j → slice_get new j ≡ slice_get piece k
  pub above : (k : ℕ) → at + length piece ≤ k → slice_get new k ≡ slice_get old k

pub writes-written : {A : Type 0} (old : List A) (at : ℕ) (piece : List A)
    → at + length piece ≤ length old → Writes old (written old at piece) at piece
writes-written old at piece fits =
    let prefix : length (take at old) ≡ at = omega (arith, length-take at old) in
    let middle : length (take at old ++ piece) ≡ at + length piece =
    omega (arith, length-append (take at old) piece) in
    let rest = drop (at + length piece) old in
    record {
      long = omega
          (arith, length-append (take at old ++ piece) rest, length-drop (at + length piece) old);
      below = λ k h.
          slice_get-append_left (take at old ++ piece) rest k (omega arith)
          ∙ slice_get-append_left (take at old) piece k (omega arith)
          ∙ slice_get-take at old k h;
      inside = λ k j h e.
          slice_get-append_left (take at old ++ piece) rest j (omega arith)
          ∙ slice_get-append_right (take at old) piece k j (omega arith);
      above = λ k h.
          slice_get-append_right (take at old ++ piece) rest (k - (at + length piece)) k
          (omega arith)
          ∙ slice_get-drop (at + length piece) old (k - (at + length piece)) k (omega arith);
    }

-- a part of a list, element by element
pub slice_get-part : {A : Type 0} (list : List A) (at count k j : ℕ) → k < count → at + k ≡ j
    → slice_get (part list at count) k ≡ slice_get list j
slice_get-part list at count k j h e = slice_get-take count (drop at list) k h
    ∙ slice_get-drop at list k j e

pub length-part : {A : Type 0} (list : List A) (at count : ℕ) → at + count ≤ length list
    → length (part list at count) ≡ count
length-part list at count h = omega (arith, length-take count (drop at list), length-drop at list)
