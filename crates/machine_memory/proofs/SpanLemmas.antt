-- Bytes that lie in one span.
use Rattle.std.proofs.Common.{◌≡◌, ℕ, ◌+◌, ◌-◌, ◌<◌, ◌≤◌, ◌↔◌, List, refl, ap, arith, inl, inr}
use Rattle.std.proofs.Common.{true, ◌||◌, leb, Option, Some, None, is_some, IfSome, IfNone, IsTrue}
use Rattle.std.proofs.lemmas.Bool.{cases_lt, le-leb, leb-true, or_cases, or_left, or_right}
use Rattle.std.proofs.lemmas.Bool.{false≢true}
use Rattle.region_pool.specs.declared.mark.Mark.{Mark}
use Rattle.region_pool.specs.Marks.{IsTaken}
use Rattle.region_pool.specs.Spans.{Span, end_of, Holds, HasFrame, IsSpanAt}
use Rattle.region_pool.proofs.FrameSpans.{taken-held, same_from_frame}
use Rattle.machine_memory.specs.Contents.{first_byte, frame_of}
use Rattle.machine_memory.specs.Spans.{LiesInSpan}

-- what a look-up found at a frame
pub record IsFound (marks : List Mark) (frame : ℕ) (found : Option (ℕ × ℕ)) : Type 0 where
  pub some : IfSome found (λ span. IsSpanAt marks frame span.0 span.1)
  pub none : IfNone found (¬ IsTaken marks frame)

found_span : (marks : List Mark) (frame : ℕ) (found : Option (ℕ × ℕ)) → IsFound marks frame found
    → is_some found ≡ true → (span : Span) × Holds marks span × HasFrame span frame
found_span marks frame None f e = absurd (false≢true e)
found_span marks frame (Some x) f e = let s = f.some in (s.span, s.held, s.inside)

span_found : (marks : List Mark) (frame : ℕ) (found : Option (ℕ × ℕ)) → IsFound marks frame found
    → (span : Span) → Holds marks span → HasFrame span frame → is_some found ≡ true
span_found marks frame None f span held inside =
    absurd (f.none (taken-held marks span frame held inside))
span_found marks frame (Some x) f span held inside = refl

-- an address lies in a span or at its end where it or the address before lies in one
pub touches : (marks : List Mark) (at : ℕ) (here before : Option (ℕ × ℕ))
    → IsFound marks (frame_of at) here → IsFound marks (frame_of (at - 1)) before
    → IsTrue (is_some here || is_some before) ↔ LiesInSpan marks at 0
touches marks at here before h b = (to, from)
  where
    to : (is_some here || is_some before) ≡ true → LiesInSpan marks at 0
    to e = elim (or_cases (is_some here) (is_some before) e) [
      | inl some ↦
          let found = found_span marks (frame_of at) here h some in
          let begun = found.2.begun in
          let unended = found.2.unended in
          record {
            span = found.0;
            held = found.1;
            inside = record { begins = omega arith; ends = omega arith };
          }
      | inr some ↦
          let found = found_span marks (frame_of (at - 1)) before b some in
          let begun = found.2.begun in
          let unended = found.2.unended in
          record {
            span = found.0;
            held = found.1;
            inside = record { begins = omega arith; ends = omega arith };
          }
    ]

    from : LiesInSpan marks at 0 → (is_some here || is_some before) ≡ true
    from s =
        let begins = s.inside.begins in
        let ends = s.inside.ends in
        let some = s.held.some in
        elim (cases_lt at (first_byte (end_of s.span))) [
          | inl l ↦ or_left (is_some here) (is_some before)
              (span_found marks (frame_of at) here h s.span s.held
              (record { begun = omega arith; unended = omega arith }))
          | inr l ↦ or_right (is_some here) (is_some before)
              (span_found marks (frame_of (at - 1)) before b s.span s.held
              (record { begun = omega arith; unended = omega arith }))
        ]

-- some bytes lie in a span where they end in the span of their first frame
pub fits_found : (marks : List Mark) (at count first frames : ℕ) → 1 ≤ count
    → IsSpanAt marks (frame_of at) first frames
    → IsTrue (leb count (first_byte (first + frames) - at))
    ↔ LiesInSpan marks at count
fits_found marks at count first frames some found = (to, from)
  where
    to : leb count (first_byte (first + frames) - at) ≡ true → LiesInSpan marks at count
    to e =
        let fits = leb-true count (first_byte (first + frames) - at) e in
        let begun = found.inside.begun in
        let begins = found.begins in
        let long = found.long in
        record {
          span = found.span;
          held = found.held;
          inside = record { begins = omega arith; ends = omega arith };
        }

    from : LiesInSpan marks at count → leb count (first_byte (first + frames) - at) ≡ true
    from s =
        let begins = s.inside.begins in
        let ends = s.inside.ends in
        let same = same_from_frame marks s.span found.span (frame_of at) s.held found.held
        (record { begun = omega arith; unended = omega arith }) found.inside in
        let stop : end_of s.span ≡ end_of found.span = ap end_of same in
        let first_is = found.begins in
        let long = found.long in
        le-leb count (first_byte (first + frames) - at) (omega arith)

-- where they lie in one span, it is that of their first frame
pub lies_in_found : (marks : List Mark) (at count first frames : ℕ) → 1 ≤ count
    → IsSpanAt marks (frame_of at) first frames → LiesInSpan marks at count
    → at + count ≤ first_byte (first + frames)
lies_in_found marks at count first frames some found s =
    let begins = s.inside.begins in
    let ends = s.inside.ends in
    let same = same_from_frame marks s.span found.span (frame_of at) s.held found.held
    (record { begun = omega arith; unended = omega arith }) found.inside in
    let stop : end_of s.span ≡ end_of found.span = ap end_of same in
    let first_is = found.begins in
    let long = found.long in
    omega arith

-- what lies in a span is taken
pub lies-taken : (marks : List Mark) (at count address : ℕ) → LiesInSpan marks at count
    → at ≤ address → address < at + count → IsTaken marks (frame_of address)
lies-taken marks at count address s l h =
    let begins = s.inside.begins in
    let ends = s.inside.ends in
    taken-held marks s.span (frame_of address) s.held
    (record { begun = omega arith; unended = omega arith })

pub fits_not_taken : (marks : List Mark) (at count : ℕ) → 1 ≤ count
    → (¬ IsTaken marks (frame_of at))
    → LiesInSpan marks at count → ⊥
fits_not_taken marks at count some not_taken s =
    let begins = s.inside.begins in
    let ends = s.inside.ends in
    not_taken (taken-held marks s.span (frame_of at) s.held
    (record { begun = omega arith; unended = omega arith }))
