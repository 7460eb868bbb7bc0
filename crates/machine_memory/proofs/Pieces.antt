-- A list with a piece written into it, element by element.
use Rattle.std.proofs.Common.{◌≡◌, ℕ, ◌+◌, ◌-◌, ◌<◌, ◌≤◌, suc, List, [], ◌∷◌, ◌++◌, length, take}
use Rattle.std.proofs.Common.{drop, set, sym, ap, arith, ◌∙◌, slice_get, length-take, length-drop}
use Rattle.std.proofs.Common.{length-append}
use Rattle.std.specs.List.{refill}
use Rattle.std.proofs.lemmas.List.{append_assoc, append-nil, drop-drop, take_at, drop_at}
use Rattle.std.proofs.lemmas.List.{take-append-drop, set_split, set-append_left, set-append_right}
use Rattle.std.proofs.lemmas.List.{length-set}
use Rattle.region_pool.proofs.Frames.{slice_get-take, slice_get-drop, slice_get-append_left}
use Rattle.region_pool.proofs.Frames.{slice_get-append_right}
use Rattle.machine_memory.specs.Writes.{part, written, lent_back}

-- a list is another but for a piece
pub record Writes {A : Type 0} (old new : List A) (at : ℕ) (piece : List A) : Type 0 where
  pub long : length new ≡ length old
  pub below : (k : ℕ) → k < at → slice_get new k ≡ slice_get old k
  pub inside : (k j : ℕ) → k < length piece → at + k ≡ j → slice_get new j ≡ slice_get piece k
  pub above : (k : ℕ) → at + length piece ≤ k → slice_get new k ≡ slice_get old k

pub writes-written : {A : Type 0} (old : List A) (at : ℕ) (piece : List A)
    → at + length piece ≤ length old → Writes old (written old at piece) at piece
writes-written old at piece fits =
    let prefix : length (take at old) ≡ at = omega (arith, length-take at old) in
    let middle : length (take at old ++ piece) ≡ at + length piece =
    omega (arith, length-append (take at old) piece) in
    let rest = drop (at + length piece) old in
    record {
      long = omega
          (arith, length-append (take at old ++ piece) rest, length-drop (at + length piece) old);
      below = λ k h.
          slice_get-append_left (take at old ++ piece) rest k (omega arith)
          ∙ slice_get-append_left (take at old) piece k (omega arith)
          ∙ slice_get-take at old k h;
      inside = λ k j h e.
          slice_get-append_left (take at old ++ piece) rest j (omega arith)
          ∙ slice_get-append_right (take at old) piece k j (omega arith);
      above = λ k h.
          slice_get-append_right (take at old ++ piece) rest (k - (at + length piece)) k
          (omega arith)
          ∙ slice_get-drop (at + length piece) old (k - (at + length piece)) k (omega arith);
    }

-- a part of a list, element by element
pub slice_get-part : {A : Type 0} (list : List A) (at count k j : ℕ) → k < count → at + k ≡ j
    → slice_get (part list at count) k ≡ slice_get list j
slice_get-part list at count k j h e = slice_get-take count (drop at list) k h
    ∙ slice_get-drop at list k j e

pub length-part : {A : Type 0} (list : List A) (at count : ℕ) → at + count ≤ length list
    → length (part list at count) ≡ count
length-part list at count h = omega (arith, length-take count (drop at list), length-drop at list)

-- what is as long as what was lent stands in its stead
pub refill-long : {A : Type 0} (count : ℕ) (list piece : List A) → length piece ≡ count
    → refill count list piece ≡ piece
refill-long count list piece long = take_at piece (drop (length piece) list) count long

-- a part put back where it was, between what was before and after it
pub lent_back-long : {A : Type 0} (list : List A) (at count : ℕ) (piece : List A)
    → length piece ≡ count
    → take at list ++ (piece ++ drop count (drop at list)) ≡ lent_back list at count piece
lent_back-long list at count piece long =
    sym (append_assoc (take at list) piece (drop count (drop at list)))
    ∙ ap (λ (rest : List _). take at list ++ piece ++ rest)
    (drop-drop count at list ∙ ap (λ (n : ℕ). drop (at + n) list) (sym long))
    ∙ ap (λ (xs : List _). written list at xs)
    (sym (refill-long count (part list at count) piece long))

pub length-refill : {A : Type 0} (count : ℕ) (list piece : List A) → length list ≡ count
    → length (refill count list piece) ≡ count
length-refill count list piece long =
    omega (
      arith,
      length-take count (piece ++ drop (length piece) list),
      length-append piece
          (drop (length piece) list),
      length-drop (length piece) list,
    )

pub length-lent_back : {A : Type 0} (list : List A) (at count : ℕ) (piece : List A)
    → at + count ≤ length list → length (lent_back list at count piece) ≡ length list
length-lent_back list at count piece fits =
    let long = length-refill count (part list at count) piece (length-part list at count fits) in
    (writes-written list at (refill count (part list at count) piece) (omega arith)).long

-- nothing written
pub written-nothing : {A : Type 0} (list : List A) (at : ℕ) → written list at [] ≡ list
written-nothing list at =
    ap (λ (xs : List _). xs ++ drop (at + 0) list) (append-nil (take at list))
    ∙ ap (λ (n : ℕ). take at list ++ drop n list) (let e : at + 0 ≡ at = omega arith in e)
    ∙ take-append-drop at list

-- one piece written right after another
pub written-after : {A : Type 0} (list : List A) (at k : ℕ) (one other : List A) → length one ≡ k
    → at + k ≤ length list
    → written (written list at one) (at + k) other ≡ written list at (one ++ other)
written-after list at k one other long fits =
    let rest = drop (at + length one) list in
    let prefix : length (take at list ++ one) ≡ at + k =
    omega (arith, length-append (take at list) one, length-take at list) in
    let after : drop (at + k + length other) (take at list ++ one ++ rest)
    ≡ drop (at + length (one ++ other)) list =
    sym (drop-drop (length other) (at + k) (take at list ++ one ++ rest))
    ∙ ap (λ (xs : List _). drop (length other) xs)
    (drop_at (take at list ++ one) rest (at + k) prefix)
    ∙ drop-drop (length other) (at + length one) list
    ∙ ap (λ (n : ℕ). drop n list) (omega (arith, length-append one other)) in
    ap (λ (xs : List _). xs ++ other ++ drop (at + k + length other) (take at list ++ one ++ rest))
    (take_at (take at list ++ one) rest (at + k) prefix)
    ∙ ap (λ (xs : List _). take at list ++ one ++ other ++ xs) after
    ∙ ap (λ (xs : List _). xs ++ drop (at + length (one ++ other)) list)
    (append_assoc (take at list) one other)

-- one element written
pub written-one : {A : Type 0} (list : List A) (at : ℕ) (x : A) → at < length list
    → set list at x ≡ written list at (x ∷ [])
written-one list at x inside =
    set_split list at x inside
    ∙ sym (append_assoc (take at list) (x ∷ []) (drop (suc at) list))
    ∙ ap (λ (n : ℕ). take at list ++ x ∷ [] ++ drop n list)
    (let e : suc at ≡ at + 1 = omega arith in e)

-- one element of a part that was lent was set
pub lent_back-set : {A : Type 0} (list : List A) (at count k : ℕ) (x : A) → at + count ≤ length list
    → k < count → lent_back list at count (set (part list at count) k x) ≡ written list (at + k)
    (x ∷ [])
lent_back-set list at count k x fits inside =
    let rest = drop at list in
    let lent = part list at count in
    let lent_long = length-part list at count fits in
    let prefix : length (take at list) ≡ at = omega (arith, length-take at list) in
    let far : (at + k) - at ≡ k = omega arith in
    sym (lent_back-long list at count (set lent k x) (length-set lent k x ∙ lent_long))
    ∙ ap (λ (xs : List _). take at list ++ xs)
    (sym (set-append_left lent (drop count rest) k x (omega arith))
    ∙ ap (λ (xs : List _). set xs k x) (take-append-drop count rest))
    ∙ ap (λ (n : ℕ). take at list ++ set rest n x) (sym far)
    ∙ sym (set-append_right (take at list) rest at (at + k) x prefix (omega arith))
    ∙ ap (λ (xs : List _). set xs (at + k) x) (take-append-drop at list)
    ∙ written-one list (at + k) x (omega arith)
