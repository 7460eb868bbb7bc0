-- The frame at which the span of a frame begins.
use Rattle.std.proofs.Common.{◌≡◌, ◌≢◌, ◌⊎◌, ℕ, zero, suc, ◌<◌, ◌≤◌, List, length, get_or}
use Rattle.std.proofs.Common.{refl, sym, ap, ◌∙◌, inl, inr, arith, true, false, Some, slice_get}
use Rattle.std.proofs.lemmas.Bool.{cases_Bool, cases_lt, cases_eq, false≢true}
use Rattle.std.proofs.lemmas.List.{get_or_past}
use Rattle.std.proofs.lemmas.Option.{slice_get-get_or, get_or_from_slice_get}
use Rattle.region_pool.specs.declared.mark.Mark.{Mark}
use Rattle.region_pool.specs.declared.mark.Mark.TheVariants.{Free, Host, Launch, Next}
use Rattle.region_pool.specs.Spans.{Span, end_of, Holds}
use Rattle.region_pool.proofs.HeldSpans.{Replaces, stands-from_held, first_mark-next}
use Rattle.machine_memory.specs.Blocks.{is_next, start_of}

next-true : (m : Mark) → is_next m ≡ true → m ≡ Next
next-true Free e = absurd (false≢true e)
next-true Host e = absurd (false≢true e)
next-true Launch e = absurd (false≢true e)
next-true Next e = refl

next-here : (marks : List Mark) (frame : ℕ) → is_next (get_or marks frame Free) ≡ true
    → slice_get marks frame ≡ Some Next
next-here marks frame e =
    elim (cases_lt frame (length marks)) [
      | inl l ↦ slice_get-get_or marks frame Free l ∙ ap Some (next-true (get_or marks frame Free) e)
      | inr l ↦ absurd (false≢true (ap is_next (sym (get_or_past marks frame Free l)) ∙ e))
    ]

next-not_here : (marks : List Mark) (frame : ℕ) → is_next (get_or marks frame Free) ≡ false
    → slice_get marks frame ≢ Some Next
next-not_here marks frame e next =
    false≢true (sym e ∙ ap is_next (get_or_from_slice_get marks frame Next Free next))

-- what is true of a start: all frames after it, up to the frame, are next frames, and it is none
pub record IsStart (marks : List Mark) (frame first : ℕ) : Type 0 where
  pub before : first ≤ frame
  pub begins : 1 ≤ first → slice_get marks first ≢ Some Next
  pub between : (k : ℕ) → first < k → k ≤ frame → slice_get marks k ≡ Some Next

pub start-is : (marks : List Mark) (frame : ℕ) → IsStart marks frame (start_of marks frame)
start-is marks zero = record {
  before = omega arith;
  begins = λ h. absurd (omega arith);
  between = λ k l h. absurd (omega arith);
}
start-is marks (suc frame) =
    elim (cases_Bool (is_next (get_or marks (suc frame) Free))) [
      | inl e ↦
          let rest = start-is marks frame in
          let before = rest.before in
          rw e (record {
            before = omega arith;
            begins = rest.begins;
            between = λ k l h. elim (cases_eq k (suc frame)) [
              | inl same ↦ rw same (next-here marks (suc frame) e)
              | inr other ↦ rest.between k l (omega arith)
            ];
          })
      | inr e ↦ rw e (record {
        before = omega arith;
        begins = λ h. next-not_here marks (suc frame) e;
        between = λ k l h. absurd (omega arith);
      })
    ]

-- there is one start
pub start-found : (marks : List Mark) (frame first : ℕ) → IsStart marks frame first
    → start_of marks frame ≡ first
start-found marks frame first here =
    let is = start-is marks frame in
    let before = here.before in
    let is_before = is.before in
    elim (cases_eq (start_of marks frame) first) [
      | inl e ↦ e
      | inr other ↦ elim (cases_lt (start_of marks frame) first) [
        | inl l ↦ absurd (here.begins (omega arith) (is.between first l before))
        | inr l ↦ absurd
            (is.begins (omega arith)
            (here.between (start_of marks frame) (omega arith) is_before))
      ]
    ]

-- of a frame of a held span
pub start-held : (marks : List Mark) (span : Span) (frame : ℕ) → Holds marks span
    → span.first ≤ frame → frame < end_of span → start_of marks frame ≡ span.first
start-held marks span frame held l h =
    let s = stands-from_held marks span held in
    start-found marks frame span.first (record {
      before = l;
      begins = λ some next. first_mark-next span.purpose (let b = s.begins in cc);
      between = λ k m n. s.continues k m (omega arith);
    })

-- of a free frame
pub start-free : (marks : List Mark) (frame : ℕ) → slice_get marks frame ≡ Some Free
    → start_of marks frame ≡ frame
start-free marks frame free =
    start-found marks frame frame (record {
      before = omega arith;
      begins = λ some next. cc;
      between = λ k l h. absurd (omega arith);
    })

-- the frame is none of the span's
abbrev pub IsOutside : Span → ℕ → Type 0
IsOutside span frame = (frame < span.first) ⊎ (end_of span ≤ frame)

-- what ends without a next frame reaches no further
start-past : (marks : List Mark) (stop frame : ℕ) → slice_get marks stop ≢ Some Next → stop ≤ frame
    → stop ≤ start_of marks frame
start-past marks stop frame ends l =
    let is = start-is marks frame in
    elim (cases_lt (start_of marks frame) stop) [
      | inl h ↦ absurd (ends (is.between stop h l))
      | inr h ↦ h
    ]

-- a frame outside a held span does not begin where the span does
pub start-outside : (marks : List Mark) (span : Span) (frame : ℕ) → Holds marks span
    → IsOutside span frame → start_of marks frame ≢ span.first
start-outside marks span frame held (inl l) e =
    let before = (start-is marks frame).before in
    absurd (omega arith)
start-outside marks span frame held (inr l) e =
    let past = start-past marks (end_of span) frame held.ends l in
    let some = held.some in
    absurd (omega arith)

start-same : (old new : List Mark) (frame : ℕ)
    → ((k : ℕ) → start_of old frame ≤ k → k ≤ frame → slice_get new k ≡ slice_get old k)
    → start_of new frame ≡ start_of old frame
start-same old new frame same =
    let is = start-is old frame in
    let before = is.before in
    start-found new frame (start_of old frame) (record {
      before = before;
      begins = λ some next. is.begins some (sym (same (start_of old frame) (omega arith) before)
          ∙ next);
      between = λ k l h. same k (omega arith) h ∙ is.between k l h;
    })

-- a frame outside the span whose marks change begins where it began
pub start-replaced : (old new : List Mark) (span : Span) (others : List Mark)
    → Replaces old new span others → slice_get old (end_of span) ≢ Some Next → (frame : ℕ)
    → IsOutside span frame → start_of new frame ≡ start_of old frame
start-replaced old new span others r ends frame (inl l) =
    start-same old new frame (λ k m h. r.below k (omega arith))
start-replaced old new span others r ends frame (inr l) =
    let past = start-past old (end_of span) frame ends l in
    start-same old new frame (λ k m h. r.above k (omega arith))
