-- Pieces written into a list, where one covers another or is there already.
use Rattle.std.proofs.Common.{◌≡◌, ℕ, ◌+◌, ◌-◌, ◌<◌, ◌≤◌, List, ◌++◌, length, replicate, length-append, take, drop, refl, sym, ap, ◌∙◌, inl, inr, arith, Some, slice_get}
use Rattle.std.proofs.lemmas.Bool.{cases_lt}
use Rattle.std.proofs.lemmas.List.{length-replicate}
use Rattle.region_pool.specs.declared.mark.Mark.{Mark}
use Rattle.region_pool.specs.Spans.{with_marks}
use Rattle.region_pool.proofs.Frames.{same_at_each, slice_get-replicate, slice_get-append_left, slice_get-append_right}
use Rattle.machine_memory.specs.Writes.{part, written}
use Rattle.machine_memory.proofs.Pieces.{writes-written, slice_get-part, length-part}

-- a piece is covered by one that is written over it, and is no shorter
pub covers : {A : Type 0} (list : List A) (at : ℕ) (piece longer : List A) → length piece ≤ length longer → at + length longer ≤ length list
    → written (written list at piece) at longer ≡ written list at longer
covers list at piece longer short fits =
    let first = writes-written list at piece (omega arith) in
    let first_long = first.long in
    let second = writes-written (written list at piece) at longer (omega arith) in
    let second_long = second.long in
    let alone = writes-written list at longer fits in
    let alone_long = alone.long in
    same_at_each _ _ (omega arith)
    (λ k h. elim (cases_lt k at) [
      | inl l ↦ second.below k l ∙ first.below k l ∙ sym (alone.below k l)
      | inr l ↦ elim (cases_lt k (at + length longer)) [
        | inl g ↦ second.inside (k - at) k (omega arith) (omega arith) ∙ sym (alone.inside (k - at) k (omega arith) (omega arith))
        | inr g ↦ second.above k g ∙ first.above k (omega arith) ∙ sym (alone.above k g)
      ]
    ])

-- what stands there already changes nothing
pub written-there : {A : Type 0} (list : List A) (at count : ℕ) (x : A) → at + count ≤ length list → ((k : ℕ) → at ≤ k → k < at + count → slice_get list k ≡ Some x)
    → written list at (replicate count x) ≡ list
written-there list at count x fits stands =
    let long = length-replicate count x in
    let w = writes-written list at (replicate count x) (omega arith) in
    let w_long = w.long in
    same_at_each _ _ w_long
    (λ k h. elim (cases_lt k at) [
      | inl l ↦ w.below k l
      | inr l ↦ elim (cases_lt k (at + count)) [
        | inl g ↦ w.inside (k - at) k (omega arith) (omega arith) ∙ slice_get-replicate count x (k - at) (omega arith) ∙ sym (stands k l g)
        | inr g ↦ w.above k (omega arith)
      ]
    ])

-- a piece at the beginning of a part in which else one element stands
pub part-piece : {A : Type 0} (list : List A) (at count : ℕ) (piece : List A) (x : A) → length piece ≤ count → at + count ≤ length list → ((k : ℕ) → at ≤ k → k < at + count → slice_get list k ≡ Some x)
    → part (written list at piece) at count ≡ piece ++ replicate (count - length piece) x
part-piece list at count piece x short fits stands =
    let w = writes-written list at piece (omega arith) in
    let w_long = w.long in
    let rest : List _ = replicate (count - length piece) x in
    let rest_long : length rest ≡ count - length piece = length-replicate (count - length piece) x in
    let left_long = length-part (written list at piece) at count (omega arith) in
    let right_long = length-append piece rest in
    same_at_each _ _ (omega arith)
    (λ k h. slice_get-part (written list at piece) at count k (at + k) (omega arith) refl ∙ (elim (cases_lt k (length piece)) [
      | inl l ↦ w.inside k (at + k) l refl ∙ sym (slice_get-append_left piece rest k l)
      | inr l ↦ w.above (at + k) (omega arith) ∙ stands (at + k) (omega arith) (omega arith)
          ∙ sym (slice_get-append_right piece rest (k - length piece) k (omega arith) ∙ slice_get-replicate (count - length piece) x (k - length piece) (omega arith))
    ]))

pub length-written : {A : Type 0} (list : List A) (at : ℕ) (piece : List A) → at + length piece ≤ length list → length (written list at piece) ≡ length list
length-written list at piece fits = (writes-written list at piece fits).long

-- marks in place of as many are written over them
pub with_marks-written : (marks : List Mark) (first frames : ℕ) (others : List Mark) → length others ≡ frames → with_marks marks first frames others ≡ written marks first others
with_marks-written marks first frames others long = ap (λ (n : ℕ). take first marks ++ others ++ drop (first + n) marks) (sym long)
