-- The search for the lowest place, in one pass, and the definition that computes it.
use Rattle.std.proofs.Common.{◌≡◌, ◌≢◌, ℕ, ◌+◌, ◌-◌, ◌/◌, ◌%◌, ◌<◌, ◌≤◌, List, length, refl, sym}
use Rattle.std.proofs.Common.{ap, ◌∙◌, inl, inr, arith, Some, slice_get}
use Rattle.std.proofs.Math.Nat.{mul-le-mul_left}
use Rattle.std.proofs.lemmas.List.{length-replicate}
use Rattle.std.proofs.lemmas.Bool.{cases_lt, cases_eq}
use Rattle.region_pool.specs.declared.mark.Mark.{Mark}
use Rattle.region_pool.specs.declared.mark.Mark.TheVariants as mark
use Rattle.region_pool.specs.Places.{IsPlace, IsLowestPlace, HasNoPlace}
use Rattle.region_pool.proofs.Frames.{slice_get-replicate, same_at_each}
use Rattle.region_pool.proofs.HeldSpans.{slice_get-marks_at, length-marks_at, within-marks_at}

-- a place, frame by frame

pub free-place : (marks : List Mark) (frames align first : ℕ) → IsPlace marks frames align first
    → (k : ℕ) → first ≤ k → k < first + frames → slice_get marks k ≡ Some mark.Free
free-place marks frames align first place k l h =
    sym (slice_get-marks_at marks first frames (k - first) k (omega arith) (omega arith))
    ∙ ap (λ (xs : List Mark). slice_get xs (k - first)) place.free
    ∙ slice_get-replicate frames mark.Free (k - first) (omega arith)

pub within-place : (marks : List Mark) (frames align first : ℕ) → 1 ≤ frames
    → IsPlace marks frames align first → first + frames ≤ length marks
within-place marks frames align first some place =
    within-marks_at marks first frames some (ap (λ (xs : List Mark). length xs) place.free
    ∙ length-replicate frames mark.Free)

place-from_free : (marks : List Mark) (frames align first : ℕ) → first % align ≡ 0
    → first + frames ≤ length marks
    → ((k : ℕ) → first ≤ k → k < first + frames → slice_get marks k ≡ Some mark.Free)
    → IsPlace marks frames align first
place-from_free marks frames align first aligned within free = record {
  aligned = aligned;
  free =
      let long = length-marks_at marks first frames within in
      same_at_each _ _ (long ∙ sym (length-replicate frames mark.Free))
      (λ k h.
      slice_get-marks_at marks first frames k (first + k) (omega arith) refl
      ∙ free (first + k) (omega arith) (omega arith)
      ∙ sym (slice_get-replicate frames mark.Free k (omega arith)));
}

-- of two multiples after a frame, the one within an alignment of it is the lower
least_multiple : (align m n frame : ℕ) → m % align ≡ 0 → n % align ≡ 0 → m ≤ frame + align
    → frame < n → m ≤ n
least_multiple align m n frame a b near past =
    elim (cases_lt n m) [
      | inr l ↦ l
      | inl l ↦ elim (cases_lt (n / align) (m / align)) [
        | inl q ↦ absurd (omega (arith, mul-le-mul_left align q))
        | inr q ↦ absurd (omega (arith, mul-le-mul_left align q))
      ]
    ]

-- so many frames were seen: from the candidate on they are free, no place is lower, and they are
-- too few
pub record IsSearched (marks : List Mark) (frames align candidate seen : ℕ) : Type 0 where
  pub aligned : candidate % align ≡ 0
  pub free : (k : ℕ) → candidate ≤ k → k < seen → slice_get marks k ≡ Some mark.Free
  pub lowest : (other : ℕ) → IsPlace marks frames align other → candidate ≤ other
  pub short : seen < candidate + frames

pub searched-none : (marks : List Mark) (frames align : ℕ) → 1 ≤ frames
    → IsSearched marks frames align 0 0
searched-none marks frames align some = record {
  aligned = omega arith;
  free = λ k l h. absurd (omega arith);
  lowest = λ other place. omega arith;
  short = omega arith;
}

pub searched-taken : (marks : List Mark) (frames align candidate next frame : ℕ) → 1 ≤ frames
    → IsSearched marks frames align candidate frame → slice_get marks frame ≢ Some mark.Free
    → next % align ≡ 0 → frame < next → next ≤ frame + align
    → IsSearched marks frames align next (frame + 1)
searched-taken marks frames align candidate next frame some s taken multiple past near = record {
  aligned = multiple;
  free = λ k l h. absurd (omega arith);
  lowest = λ other place. elim (cases_lt frame other) [
    | inl l ↦ least_multiple align next other frame multiple place.aligned near l
    | inr l ↦ absurd
        (taken (free-place marks frames align other place frame l (let low = s.lowest other place in
        let short = s.short in omega arith)))
  ];
  short = omega arith;
}

free_more : (marks : List Mark) (frames align candidate frame : ℕ)
    → IsSearched marks frames align candidate frame → slice_get marks frame ≡ Some mark.Free
    → (k : ℕ) → candidate ≤ k → k < frame + 1 → slice_get marks k ≡ Some mark.Free
free_more marks frames align candidate frame s here k l h =
    elim (cases_eq k frame) [
      | inl e ↦ ap (slice_get marks) e ∙ here
      | inr n ↦ s.free k l (omega arith)
    ]

pub searched-free : (marks : List Mark) (frames align candidate frame : ℕ)
    → IsSearched marks frames align candidate frame → slice_get marks frame ≡ Some mark.Free
    → frame + 1 < candidate + frames → IsSearched marks frames align candidate (frame + 1)
searched-free marks frames align candidate frame s here short = record {
  aligned = s.aligned;
  free = free_more marks frames align candidate frame s here;
  lowest = s.lowest;
  short = short;
}

pub searched-found : (marks : List Mark) (frames align candidate frame : ℕ)
    → IsSearched marks frames align candidate frame → frame < length marks
    → slice_get marks frame ≡ Some mark.Free → candidate + frames ≤ frame + 1
    → IsLowestPlace marks frames align candidate
searched-found marks frames align candidate frame s within here enough = record {
  place = place-from_free marks frames align candidate s.aligned (omega arith)
      (λ k l h. free_more marks frames align candidate frame s here k l (omega arith));
  lowest = s.lowest;
}

pub searched-all : (marks : List Mark) (frames align candidate : ℕ) → 1 ≤ frames
    → IsSearched marks frames align candidate (length marks) → HasNoPlace marks frames align
searched-all marks frames align candidate some s first place =
    let low = s.lowest first place in
    let short = s.short in
    omega (arith, within-place marks frames align first some place)
