-- Two pieces written into one list: over one another, or apart.
use Rattle.std.proofs.Common.{◌≡◌, ◌⊎◌, ℕ, ◌+◌, ◌-◌, ◌≤◌, List, length, refl, sym, ◌∙◌, inl, inr, arith}
use Rattle.std.proofs.lemmas.Bool.{cases_lt}
use Rattle.region_pool.proofs.Frames.{same_at_each}
use Rattle.machine_memory.specs.Writes.{part, written}
use Rattle.machine_memory.proofs.Pieces.{writes-written, slice_get-part, length-part}

-- the second of two pieces of one length, at one address, is what stands
pub written-over : {A : Type 0} (list : List A) (at : ℕ) (one other : List A) → length one ≡ length other → at + length one ≤ length list
    → written (written list at one) at other ≡ written list at other
written-over list at one other long fits =
    let first = writes-written list at one fits in
    let first_long = first.long in
    let second = writes-written (written list at one) at other (omega arith) in
    let second_long = second.long in
    let alone = writes-written list at other (omega arith) in
    let alone_long = alone.long in
    same_at_each _ _ (omega arith)
    (λ k h. elim (cases_lt k at) [
      | inl l ↦ second.below k l ∙ first.below k l ∙ sym (alone.below k l)
      | inr l ↦ elim (cases_lt k (at + length other)) [
        | inl g ↦ second.inside (k - at) k (omega arith) (omega arith) ∙ sym (alone.inside (k - at) k (omega arith) (omega arith))
        | inr g ↦ second.above k g ∙ first.above k (omega arith) ∙ sym (alone.above k g)
      ]
    ])

-- what was written is the part there
pub part-written : {A : Type 0} (list : List A) (at count : ℕ) (piece : List A) → length piece ≡ count → at + count ≤ length list
    → part (written list at piece) at count ≡ piece
part-written list at count piece long fits =
    let w = writes-written list at piece (omega arith) in
    let w_long = w.long in
    let part_long = length-part (written list at piece) at count (omega arith) in
    same_at_each _ _ (part_long ∙ sym long)
    (λ k h. slice_get-part (written list at piece) at count k (at + k) (omega arith) refl ∙ w.inside k (at + k) (omega arith) refl)

-- so many elements from one place on, and so many from another on, have none in common
abbrev pub AreApart : ℕ → ℕ → ℕ → ℕ → Type 0
AreApart at count other_at other_count = (at + count ≤ other_at) ⊎ (other_at + other_count ≤ at)

-- what is written apart leaves a part
pub part-apart : {A : Type 0} (list : List A) (at other_at count : ℕ) (piece : List A)
    → AreApart at (length piece) other_at count → at + length piece ≤ length list → other_at + count ≤ length list
    → part (written list at piece) other_at count ≡ part list other_at count
part-apart list at other_at count piece apart fits inside =
    let w = writes-written list at piece fits in
    let w_long = w.long in
    let new_long = length-part (written list at piece) other_at count (omega arith) in
    let old_long = length-part list other_at count inside in
    same_at_each _ _ (new_long ∙ sym old_long)
    (λ k h. slice_get-part (written list at piece) other_at count k (other_at + k) (omega arith) refl
    ∙ (elim apart [
      | inl before ↦ w.above (other_at + k) (omega arith)
      | inr after ↦ w.below (other_at + k) (omega arith)
    ])
    ∙ sym (slice_get-part list other_at count k (other_at + k) (omega arith) refl))

-- of two pieces, the first of which ends before the second begins, either may be written first
written-commutes_up : {A : Type 0} (list : List A) (at other_at : ℕ) (one other : List A)
    → at + length one ≤ other_at → other_at + length other ≤ length list
    → written (written list at one) other_at other ≡ written (written list other_at other) at one
written-commutes_up list at other_at one other apart fits =
    let a = writes-written list at one (omega arith) in
    let a_long = a.long in
    let b = writes-written list other_at other fits in
    let b_long = b.long in
    let ab = writes-written (written list at one) other_at other (omega arith) in
    let ab_long = ab.long in
    let ba = writes-written (written list other_at other) at one (omega arith) in
    let ba_long = ba.long in
    same_at_each _ _ (omega arith)
    (λ k h. elim (cases_lt k other_at) [
      | inl l ↦ elim (cases_lt k at) [
        | inl low ↦ ab.below k l ∙ a.below k low ∙ sym (ba.below k low ∙ b.below k l)
        | inr low ↦ elim (cases_lt k (at + length one)) [
          | inl g ↦ ab.below k l ∙ a.inside (k - at) k (omega arith) (omega arith) ∙ sym (ba.inside (k - at) k (omega arith) (omega arith))
          | inr g ↦ ab.below k l ∙ a.above k g ∙ sym (ba.above k g ∙ b.below k l)
        ]
      ]
      | inr l ↦ elim (cases_lt k (other_at + length other)) [
        | inl g ↦ ab.inside (k - other_at) k (omega arith) (omega arith) ∙ sym (ba.above k (omega arith) ∙ b.inside (k - other_at) k (omega arith) (omega arith))
        | inr g ↦ ab.above k g ∙ a.above k (omega arith) ∙ sym (ba.above k (omega arith) ∙ b.above k g)
      ]
    ])

-- pieces that lie apart may be written in either order
pub written-commutes : {A : Type 0} (list : List A) (at other_at : ℕ) (one other : List A)
    → AreApart at (length one) other_at (length other) → at + length one ≤ length list → other_at + length other ≤ length list
    → written (written list at one) other_at other ≡ written (written list other_at other) at one
written-commutes list at other_at one other (inl before) fits other_fits = written-commutes_up list at other_at one other before other_fits
written-commutes list at other_at one other (inr after) fits other_fits = sym (written-commutes_up list other_at at other one after fits)
