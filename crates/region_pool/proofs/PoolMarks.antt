-- What is true of every pool stays true where a span is taken or given back.
use Rattle.std.proofs.Common.{◌≡◌, ◌≢◌, ◌⊎◌, ℕ, zero, suc, ◌-◌, ◌<◌, ◌≤◌, ◌^◌, List, ◌∷◌, length}
use Rattle.std.proofs.Common.{replicate, refl, sym, ap, ◌∙◌, inl, inr, arith, Some, slice_get}
use Rattle.std.proofs.lemmas.List.{length-replicate}
use Rattle.std.proofs.lemmas.Bool.{cases_lt}
use Rattle.std.proofs.lemmas.Option.{slice_get_within}
use Rattle.region_pool.specs.declared.mark.Mark.{Mark}
use Rattle.region_pool.specs.declared.mark.Mark.TheVariants as mark
use Rattle.region_pool.specs.Marks.{IsPool}
use Rattle.region_pool.specs.Spans.{Span, end_of, marks_of, marks_at, Holds, IsDisjoint, with_span}
use Rattle.region_pool.specs.Spans.{without_span}
use Rattle.region_pool.specs.Places.{IsPlace}
use Rattle.region_pool.proofs.Search.{free-place, within-place}
use Rattle.region_pool.proofs.Frames.{slice_get-replicate}
use Rattle.region_pool.proofs.HeldSpans.{first_mark-next, first_mark-free, length-marks_of}
use Rattle.region_pool.proofs.HeldSpans.{Replaces, replaces-with_marks, stands-from_held}
use Rattle.region_pool.proofs.HeldSpans.{held-from_stands, held-apart, held_apart, apart_from_free}
use Rattle.region_pool.proofs.HeldSpans.{slice_get-marks_at}

-- the first frame is no next frame, where the span's first new mark is none
first_frame : (old new : List Mark) (span : Span) (others : List Mark) → IsPool old
    → Replaces old new span others → 1 ≤ span.frames → slice_get others 0 ≢ Some mark.Next
    → slice_get new 0 ≢ Some mark.Next
first_frame old new span others pool r some begins next =
    elim (cases_lt 0 span.first) [
      | inl l ↦ pool.continued 0 refl (sym (r.below 0 l) ∙ next)
      | inr l ↦ begins (sym (r.inside 0 0 some (omega arith)) ∙ next)
    ]

-- the span's new marks have no free one
taken_step : (old new : List Mark) (span : Span) (others : List Mark) → IsPool old
    → Replaces old new span others → 1 ≤ span.frames → slice_get others 0 ≢ Some mark.Next
    → ((k : ℕ) → k < span.frames → slice_get others k ≢ Some mark.Free) → (k : ℕ)
    → slice_get new k ≡ Some mark.Free → slice_get new (suc k) ≢ Some mark.Next
taken_step old new span others pool r some begins full k free next =
    elim (cases_lt k span.first) [
      | inl l ↦ elim (cases_lt (suc k) span.first) [
        | inl m ↦ pool.continued (suc k) (sym (r.below k l) ∙ free) (sym (r.below (suc k) m) ∙ next)
        | inr m ↦ begins (sym (r.inside 0 (suc k) some (omega arith)) ∙ next)
      ]
      | inr l ↦ elim (cases_lt k (end_of span)) [
        | inl m ↦ full (k - span.first) (omega arith)
            (sym (r.inside (k - span.first) k (omega arith) (omega arith)) ∙ free)
        | inr m ↦ pool.continued (suc k) (sym (r.above k m) ∙ free)
            (sym (r.above (suc k) (omega arith)) ∙ next)
      ]
    ]

-- the span's new marks have no next frame, and there is none after it
given_step : (old new : List Mark) (span : Span) (others : List Mark) → IsPool old
    → Replaces old new span others → 1 ≤ span.frames
    → ((k : ℕ) → k < span.frames → slice_get others k ≢ Some mark.Next)
    → slice_get old (end_of span) ≢ Some mark.Next → (k : ℕ) → slice_get new k ≡ Some mark.Free
    → slice_get new (suc k) ≢ Some mark.Next
given_step old new span others pool r some none ends k free next =
    elim (cases_lt (suc k) span.first) [
      | inl l ↦ pool.continued (suc k) (sym (r.below k (omega arith)) ∙ free)
          (sym (r.below (suc k) l) ∙ next)
      | inr l ↦ elim (cases_lt (suc k) (end_of span)) [
        | inl m ↦ none (suc k - span.first) (omega arith)
            (sym (r.inside (suc k - span.first) (suc k) (omega arith) (omega arith)) ∙ next)
        | inr m ↦ elim (cases_lt k (end_of span)) [
          | inl b ↦ ends (let e : end_of span ≡ suc k = omega arith in ap (slice_get old) e
              ∙ sym (r.above (suc k) m) ∙ next)
          | inr b ↦ pool.continued (suc k) (sym (r.above k b) ∙ free)
              (sym (r.above (suc k) m) ∙ next)
        ]
      ]
    ]

continued_from : (marks : List Mark) → slice_get marks 0 ≢ Some mark.Next
    → ((k : ℕ) → slice_get marks k ≡ Some mark.Free → slice_get marks (suc k) ≢ Some mark.Next)
    → (k : ℕ) → slice_get (mark.Free ∷ marks) k ≡ Some mark.Free
    → slice_get marks k ≢ Some mark.Next
continued_from marks first step zero free = first
continued_from marks first step (suc k) free = step k free

-- the marks of a span, and free marks

marks_of-begins : (span : Span) → slice_get (marks_of span) 0 ≢ Some mark.Next
marks_of-begins span e = first_mark-next span.purpose cc

marks_of-free : (span : Span) (k : ℕ) → k < span.frames
    → slice_get (marks_of span) k ≢ Some mark.Free
marks_of-free span zero h e = first_mark-free span.purpose cc
marks_of-free span (suc k) h e = let n =
    slice_get-replicate (span.frames - 1) mark.Next k (omega arith) in cc

free-next : (n k : ℕ) → k < n → slice_get (replicate n mark.Free) k ≢ Some mark.Next
free-next n k h e = let f = slice_get-replicate n mark.Free k h in cc

-- a change seen from after it: the span's marks become what they were
pub replaces-back : (old new : List Mark) (span : Span) (others : List Mark)
    → Replaces old new span others
    → Replaces new old span (marks_at old span.first span.frames)
replaces-back old new span others r = record {
  long = sym r.long;
  below = λ k h. sym (r.below k h);
  inside = λ k j h e. sym (slice_get-marks_at old span.first span.frames k j h e);
  above = λ k h. sym (r.above k h);
}

-- what was held where it is held after the change, and is apart from the span
held_before : (old new : List Mark) (span : Span) (others : List Mark)
    → Replaces old new span others → 1 ≤ span.frames → slice_get old span.first ≢ Some mark.Next
    → (other : Span) → Holds new other → IsDisjoint span other → Holds old other
held_before old new span others r some begins other held d =
    held-apart new old span (marks_at old span.first span.frames)
    (replaces-back old new span others r) some
    (λ next. begins
    (sym (slice_get-marks_at old span.first span.frames 0 span.first some (omega arith)) ∙ next))
    other held d

-- a span taken

-- the span's frames are free
abbrev pub AreFree : List Mark → Span → Type 0
AreFree marks span = (k : ℕ) → span.first ≤ k → k < end_of span → slice_get marks k ≡ Some mark.Free

pub taken_is : (marks : List Mark) (span : Span) → 1 ≤ span.frames → end_of span ≤ length marks
    → Replaces marks (with_span marks span) span (marks_of span)
taken_is marks span some within =
    replaces-with_marks marks span (marks_of span) within (length-marks_of span some)

pub pool-with_span : (marks : List Mark) (span : Span) (align : ℕ) → 1 ≤ span.frames
    → IsPlace marks span.frames align span.first → IsPool marks → IsPool (with_span marks span)
pool-with_span marks span align some place pool =
    let r = taken_is marks span some (within-place marks span.frames align span.first some place) in
    let begins = marks_of-begins span in
    record {
      size = (let l = r.long in let s = pool.size in omega arith);
      continued = continued_from (with_span marks span)
          (first_frame marks (with_span marks span) span (marks_of span) pool r some begins)
          (taken_step marks (with_span marks span) span (marks_of span) pool r some begins
          (marks_of-free span));
    }

-- after free frames of a pool stands no next frame
end-free : (marks : List Mark) (span : Span) → 1 ≤ span.frames → AreFree marks span → IsPool marks
    → slice_get marks (end_of span) ≢ Some mark.Next
end-free marks span some free pool next =
    let last : suc (end_of span - 1) ≡ end_of span = omega arith in
    pool.continued (suc (end_of span - 1)) (free (end_of span - 1) (omega arith) (omega arith))
    (ap (slice_get marks) last ∙ next)

pub held-with_span : (marks : List Mark) (span : Span) (align : ℕ) → 1 ≤ span.frames
    → IsPlace marks span.frames align span.first → IsPool marks → Holds (with_span marks span) span
held-with_span marks span align some place pool =
    let within = within-place marks span.frames align span.first some place in
    let r = taken_is marks span some within in
    held-from_stands (with_span marks span) span (record {
      some = some;
      within = (let l = r.long in omega arith);
      begins = r.inside 0 span.first some (omega arith);
      continues = λ k l h.
          r.inside (suc (k - span.first - 1)) k (omega arith) (omega arith)
          ∙ slice_get-replicate (span.frames - 1) mark.Next (k - span.first - 1) (omega arith);
      ends = λ next.
          end-free marks span some (free-place marks span.frames align span.first place) pool
          (sym (r.above (end_of span) (omega arith)) ∙ next);
    })

pub apart-with_span : (marks : List Mark) (span : Span) (align : ℕ) → 1 ≤ span.frames
    → IsPlace marks span.frames align span.first → (other : Span) → Holds marks other
    → IsDisjoint span other
apart-with_span marks span align some place other held =
    apart_from_free marks span other some (free-place marks span.frames align span.first place)
    (stands-from_held marks other held)

pub others-with_span : (marks : List Mark) (span : Span) (align : ℕ) → 1 ≤ span.frames
    → IsPlace marks span.frames align span.first → (other : Span) → Holds marks other
    → Holds (with_span marks span) other
others-with_span marks span align some place other held =
    held-apart marks (with_span marks span) span (marks_of span)
    (taken_is marks span some (within-place marks span.frames align span.first some place))
    some (marks_of-begins span) other held (apart-with_span marks span align some place other held)

-- what is held once the span is taken: it, and what was held before and is apart from it
pub before-with_span : (marks : List Mark) (span : Span) (align : ℕ) → 1 ≤ span.frames
    → IsPlace marks span.frames align span.first → IsPool marks → (other : Span)
    → Holds (with_span marks span) other
    → (other ≡ span) ⊎ (Holds marks other × IsDisjoint span other)
before-with_span marks span align some place pool other held =
    let within = within-place marks span.frames align span.first some place in
    let free = free-place marks span.frames align span.first place in
    let begins : slice_get marks span.first ≡ Some mark.Free =
    free span.first (omega arith) (omega arith) in
    elim (held_apart (with_span marks span) span other
    (held-with_span marks span align some place pool) held) [
      | inl e ↦ inl (sym e)
      | inr d ↦ inr (
        held_before marks (with_span marks span) span (marks_of span)
            (taken_is marks span some within) some (λ next. cc) other held d,
        d,
      )
    ]

-- a span given back

pub given_is : (marks : List Mark) (span : Span) → Holds marks span
    → Replaces marks (without_span marks span) span (replicate span.frames mark.Free)
given_is marks span held =
    replaces-with_marks marks span (replicate span.frames mark.Free)
    (stands-from_held marks span held).within (length-replicate span.frames mark.Free)

pub pool-without_span : (marks : List Mark) (span : Span) → Holds marks span → IsPool marks
    → IsPool (without_span marks span)
pool-without_span marks span held pool =
    let r = given_is marks span held in
    let none = free-next span.frames in
    record {
      size = (let l = r.long in let s = pool.size in omega arith);
      continued = continued_from (without_span marks span)
          (first_frame marks (without_span marks span) span (replicate span.frames mark.Free) pool r
          held.some (none 0 held.some))
          (given_step marks (without_span marks span) span (replicate span.frames mark.Free) pool r
          held.some none held.ends);
    }

pub others-without_span : (marks : List Mark) (span : Span) → Holds marks span → (other : Span)
    → Holds marks other → other ≢ span → Holds (without_span marks span) other
others-without_span marks span held other h differs =
    elim (held_apart marks span other held h) [
      | inl e ↦ absurd (differs (sym e))
      | inr d ↦ held-apart marks (without_span marks span) span (replicate span.frames mark.Free)
          (given_is marks span held) held.some (free-next span.frames 0 held.some) other h d
    ]

-- what is held once the span is given back was held before, and is apart from it
pub before-without_span : (marks : List Mark) (span : Span) → Holds marks span → (other : Span)
    → Holds (without_span marks span) other → Holds marks other × IsDisjoint span other
before-without_span marks span held other h =
    let r = given_is marks span held in
    let s = stands-from_held marks span held in
    let d = apart_from_free (without_span marks span) span other held.some
    (λ k l m. r.inside (k - span.first) k (omega arith) (omega arith)
    ∙ slice_get-replicate span.frames mark.Free (k - span.first) (omega arith))
    (stands-from_held (without_span marks span) other h) in (
      held_before marks (without_span marks span) span (replicate span.frames mark.Free) r held.some
          (λ next. first_mark-next span.purpose (let b = s.begins in cc)) other h d,
      d,
    )

-- every frame of a new pool is free
pub pool-replicate : (n : ℕ) → n < 2 ^ 32 → IsPool (replicate n mark.Free)
pool-replicate n h = record {
  size = omega (arith, length-replicate n mark.Free);
  continued = λ k free next. free-next n k
      (omega (
        arith,
        slice_get_within (replicate n mark.Free) k mark.Next next,
        length-replicate n
            mark.Free,
      )) next;
}
