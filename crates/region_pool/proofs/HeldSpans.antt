-- Spans that a pool holds, frame by frame, and what a change at one span leaves of them.
use Rattle.std.proofs.Common.{◌≡◌, ◌≢◌, ◌⊎◌, ℕ, zero, suc, ◌+◌, ◌-◌, ◌<◌, ◌≤◌, List, ◌++◌, length}
use Rattle.std.proofs.Common.{take, drop, refl, sym, ap, ◌∙◌, inl, inr, arith, Some, slice_get}
use Rattle.std.proofs.Common.{length-take, length-drop, length-append}
use Rattle.std.proofs.lemmas.List.{length-replicate}
use Rattle.std.proofs.lemmas.Bool.{cases_lt, cases_eq, cases_order}
use Rattle.region_pool.specs.declared.mark.Mark.{Mark}
use Rattle.region_pool.specs.declared.mark.Mark.TheVariants as mark
use Rattle.region_pool.specs.declared.ticket.Purpose.{Purpose}
use Rattle.region_pool.specs.declared.ticket.Purpose.TheVariants as purpose
use Rattle.region_pool.specs.Spans.{Span, end_of, first_mark, marks_of, marks_at, Holds, IsDisjoint}
use Rattle.region_pool.specs.Spans.{with_marks}
use Rattle.region_pool.proofs.Frames.{slice_get-take, slice_get-drop, slice_get-append_left}
use Rattle.region_pool.proofs.Frames.{slice_get-append_right, slice_get-replicate, same_at_each}

pub first_mark-next : (p : Purpose) → first_mark p ≢ mark.Next
first_mark-next purpose.Host e = cc
first_mark-next purpose.Launch e = cc

pub first_mark-free : (p : Purpose) → first_mark p ≢ mark.Free
first_mark-free purpose.Host e = cc
first_mark-free purpose.Launch e = cc

first_mark_tells : (p q : Purpose) → first_mark p ≡ first_mark q → p ≡ q
first_mark_tells purpose.Host purpose.Host e = refl
first_mark_tells purpose.Host purpose.Launch e = cc
first_mark_tells purpose.Launch purpose.Host e = cc
first_mark_tells purpose.Launch purpose.Launch e = refl

pub length-marks_of : (span : Span) → 1 ≤ span.frames → length (marks_of span) ≡ span.frames
length-marks_of span h = omega (arith, length-replicate (span.frames - 1) mark.Next)

-- the marks of so many frames, frame by frame
pub slice_get-marks_at : (marks : List Mark) (first frames k j : ℕ) → k < frames → first + k ≡ j
    → slice_get (marks_at marks first frames) k ≡ slice_get marks j
slice_get-marks_at marks first frames k j h e = slice_get-take frames (drop first marks) k h
    ∙ slice_get-drop first marks k j e

pub length-marks_at : (marks : List Mark) (first frames : ℕ) → first + frames ≤ length marks
    → length (marks_at marks first frames) ≡ frames
length-marks_at marks first frames h =
    omega (arith, length-take frames (drop first marks), length-drop first marks)

-- so many frames are in the pool where their marks are so many
pub within-marks_at : (marks : List Mark) (first frames : ℕ) → 1 ≤ frames
    → length (marks_at marks first frames) ≡ frames → first + frames ≤ length marks
within-marks_at marks first frames h e =
    omega (arith, length-take frames (drop first marks), length-drop first marks)

-- a held span, frame by frame
pub record Stands (marks : List Mark) (span : Span) : Type 0 where
  pub some : 1 ≤ span.frames
  pub within : end_of span ≤ length marks
  pub begins : slice_get marks span.first ≡ Some (first_mark span.purpose)
  pub continues : (k : ℕ) → span.first < k → k < end_of span → slice_get marks k ≡ Some mark.Next
  pub ends : slice_get marks (end_of span) ≢ Some mark.Next

mark_of_held : (marks : List Mark) (span : Span) → Holds marks span → (k j : ℕ) → k < span.frames
    → span.first + k ≡ j → slice_get marks j ≡ slice_get (marks_of span) k
mark_of_held marks span held k j h e = sym (slice_get-marks_at marks span.first span.frames k j h e)
    ∙ ap (λ (xs : List Mark). slice_get xs k) held.stands

slice_get-marks_of : (span : Span) (k : ℕ) → 0 < k → k < span.frames
    → slice_get (marks_of span) k ≡ Some mark.Next
slice_get-marks_of span zero p h = absurd (omega arith)
slice_get-marks_of span (suc k) p h =
    slice_get-replicate (span.frames - 1) mark.Next k (omega arith)

pub stands-from_held : (marks : List Mark) (span : Span) → Holds marks span → Stands marks span
stands-from_held marks span held = record {
  some = held.some;
  within = within-marks_at marks span.first span.frames held.some
      (ap (λ (xs : List Mark). length xs) held.stands ∙ length-marks_of span held.some);
  begins = mark_of_held marks span held 0 span.first held.some (omega arith);
  continues = λ k l h. mark_of_held marks span held (k - span.first) k (omega arith) (omega arith)
      ∙ slice_get-marks_of span (k - span.first) (omega arith) (omega arith);
  ends = held.ends;
}

same_frame : (marks : List Mark) (span : Span) → Stands marks span → (k : ℕ) → k < span.frames
    → slice_get marks (span.first + k) ≡ slice_get (marks_of span) k
same_frame marks span s zero h = ap (slice_get marks) (omega arith) ∙ s.begins
same_frame marks span s (suc k) h = s.continues (span.first + suc k) (omega arith) (omega arith)
    ∙ sym (slice_get-marks_of span (suc k) (omega arith) h)

pub held-from_stands : (marks : List Mark) (span : Span) → Stands marks span → Holds marks span
held-from_stands marks span s = record {
  some = s.some;
  stands =
      let long = length-marks_at marks span.first span.frames s.within in
      same_at_each _ _ (long ∙ sym (length-marks_of span s.some))
      (λ k h. slice_get-marks_at marks span.first span.frames k _ (omega arith) refl
      ∙ same_frame marks span s k (omega arith));
  ends = s.ends;
}

-- no frame of a held span is free
pub taken-stands : (marks : List Mark) (span : Span) → Stands marks span → (k : ℕ) → span.first ≤ k
    → k < end_of span → slice_get marks k ≢ Some mark.Free
taken-stands marks span s k l h free =
    elim (cases_eq k span.first) [
      | inl e ↦ first_mark-free span.purpose (let b = s.begins in cc)
      | inr n ↦ (let b = s.continues k (omega arith) h in cc)
    ]

-- two held spans

apart_or_same_first : (marks : List Mark) (one other : Span) → Stands marks one → Stands marks other
    → one.first < other.first → end_of one ≤ other.first
apart_or_same_first marks one other s t h =
    elim (cases_lt other.first (end_of one)) [
      | inl l ↦ absurd
          (first_mark-next other.purpose (let a = s.continues other.first h l in let b = t.begins in
          cc))
      | inr l ↦ l
    ]

not_shorter : (marks : List Mark) (one other : Span) → Stands marks one → Stands marks other
    → one.first ≡ other.first → one.frames < other.frames → ⊥
not_shorter marks one other s t e h =
    s.ends (t.continues (end_of one) (let p = s.some in omega arith) (omega arith))

abbrev span_at : ℕ → ℕ → Purpose → Span
span_at first frames purpose = record { first = first; frames = frames; purpose = purpose }

same_span : (one other : Span) → one.first ≡ other.first → one.frames ≡ other.frames
    → one.purpose ≡ other.purpose → one ≡ other
same_span one other f n p =
    ap (λ (x : ℕ). span_at x one.frames one.purpose) f
    ∙ ap (λ (x : ℕ). span_at other.first x one.purpose) n
    ∙ ap (λ (x : Purpose). span_at other.first other.frames x) p

same_from_first : (marks : List Mark) (one other : Span) → Stands marks one → Stands marks other
    → one.first ≡ other.first → one ≡ other
same_from_first marks one other s t e =
    same_span one other e
    (elim (cases_order one.frames other.frames) [
      | inl same ↦ same
      | inr (inl less) ↦ absurd (not_shorter marks one other s t e less)
      | inr (inr more) ↦ absurd (not_shorter marks other one t s (sym e) more)
    ])
    (first_mark_tells one.purpose other.purpose (let a = s.begins in let b = t.begins in cc))

pub held_apart : (marks : List Mark) (one other : Span) → Holds marks one → Holds marks other
    → (one ≡ other) ⊎ IsDisjoint one other
held_apart marks one other h k =
    let s = stands-from_held marks one h in
    let t = stands-from_held marks other k in
    elim (cases_order one.first other.first) [
      | inl e ↦ inl (same_from_first marks one other s t e)
      | inr (inl l) ↦ inr (inl (apart_or_same_first marks one other s t l))
      | inr (inr l) ↦ inr (inr (apart_or_same_first marks other one t s l))
    ]

-- one span's frames made others

-- a list of marks is another but for the marks of one span
pub record Replaces (old new : List Mark) (span : Span) (others : List Mark) : Type 0 where
  pub long : length new ≡ length old
  pub below : (k : ℕ) → k < span.first → slice_get new k ≡ slice_get old k
  pub inside : (k j : ℕ) → k < span.frames → span.first + k ≡ j
      → slice_get new j ≡ slice_get others k
  pub above : (k : ℕ) → end_of span ≤ k → slice_get new k ≡ slice_get old k

long_prefix : (marks : List Mark) (span : Span) (others : List Mark) → end_of span ≤ length marks
    → length others ≡ span.frames → length (take span.first marks) ≡ span.first
long_prefix marks span others w l = omega (arith, length-take span.first marks)

long_middle : (marks : List Mark) (span : Span) (others : List Mark) → end_of span ≤ length marks
    → length others ≡ span.frames → length (take span.first marks ++ others) ≡ end_of span
long_middle marks span others w l =
    omega (arith, length-append (take span.first marks) others, long_prefix marks span others w l)

pub replaces-with_marks : (marks : List Mark) (span : Span) (others : List Mark)
    → end_of span ≤ length marks → length others ≡ span.frames
    → Replaces marks (with_marks marks span.first span.frames others) span others
replaces-with_marks marks span others w l =
    let prefix = long_prefix marks span others w l in
    let middle = long_middle marks span others w l in
    let rest = drop (end_of span) marks in
    record {
      long = omega (
        arith,
        length-append (take span.first marks ++ others) rest,
        middle,
        length-drop (end_of span) marks,
      );
      below = λ k h.
          slice_get-append_left (take span.first marks ++ others) rest k (omega arith)
          ∙ slice_get-append_left (take span.first marks) others k (omega arith)
          ∙ slice_get-take span.first marks k h;
      inside = λ k j h e.
          slice_get-append_left (take span.first marks ++ others) rest j (omega arith)
          ∙ slice_get-append_right (take span.first marks) others k j (omega arith);
      above = λ k h.
          slice_get-append_right (take span.first marks ++ others) rest (k - end_of span) k
          (omega arith)
          ∙ slice_get-drop (end_of span) marks (k - end_of span) k (omega arith);
    }

same_apart : (old new : List Mark) (span : Span) (others : List Mark) → Replaces old new span others
    → (other : Span) → IsDisjoint span other → (k : ℕ) → other.first ≤ k → k < end_of other
    → slice_get new k ≡ slice_get old k
same_apart old new span others r other (inl b) k l h = r.above k (omega arith)
same_apart old new span others r other (inr b) k l h = r.below k (omega arith)

-- after a span apart, no next frame comes to stand
ends_apart : (old new : List Mark) (span : Span) (others : List Mark) → Replaces old new span others
    → 1 ≤ span.frames → slice_get others 0 ≢ Some mark.Next → (other : Span) → Stands old other
    → IsDisjoint span other → slice_get new (end_of other) ≢ Some mark.Next
ends_apart old new span others r some begins other s d next =
    elim (cases_lt (end_of other) span.first) [
      | inl l ↦ s.ends (sym (r.below (end_of other) l) ∙ next)
      | inr l ↦ elim (cases_lt (end_of other) (end_of span)) [
        | inl h ↦ begins (sym (r.inside 0 (end_of other) some (starts d l h)) ∙ next)
        | inr h ↦ s.ends (sym (r.above (end_of other) h) ∙ next)
      ]
    ]
  where
    starts : IsDisjoint span other → span.first ≤ end_of other → end_of other < end_of span
        → span.first + 0 ≡ end_of other
    starts (inl b) l h = let p = s.some in absurd (omega arith)
    starts (inr b) l h = omega arith

-- a held span apart from the one that changes stays held
pub held-apart : (old new : List Mark) (span : Span) (others : List Mark)
    → Replaces old new span others → 1 ≤ span.frames → slice_get others 0 ≢ Some mark.Next
    → (other : Span) → Holds old other → IsDisjoint span other → Holds new other
held-apart old new span others r some begins other held d =
    let s = stands-from_held old other held in
    let same = same_apart old new span others r other d in
    held-from_stands new other (record {
      some = s.some;
      within = (let l = r.long in let w = s.within in omega arith);
      begins = same other.first (omega arith) (let p = s.some in omega arith) ∙ s.begins;
      continues = λ k l h. same k (omega arith) h ∙ s.continues k l h;
      ends = ends_apart old new span others r some begins other s d;
    })

-- a span of free frames is apart from every held one
pub apart_from_free : (marks : List Mark) (span other : Span) → 1 ≤ span.frames
    → ((k : ℕ) → span.first ≤ k → k < end_of span → slice_get marks k ≡ Some mark.Free)
    → Stands marks other → IsDisjoint span other
apart_from_free marks span other some free s =
    elim (cases_lt span.first (end_of other)) [
      | inr l ↦ inr l
      | inl l ↦ elim (cases_lt other.first (end_of span)) [
        | inr h ↦ inl h
        | inl h ↦ elim (cases_lt span.first other.first) [
          | inl b ↦ absurd
              (taken-stands marks other s other.first (omega arith) (let p = s.some in omega arith)
              (free other.first (omega arith) h))
          | inr b ↦ absurd
              (taken-stands marks other s span.first b l
              (free span.first (omega arith) (omega arith)))
        ]
      ]
    ]
