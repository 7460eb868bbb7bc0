-- The span in which a taken frame lies.
use Rattle.std.proofs.Common.{◌≡◌, ◌≢◌, ℕ, suc, ◌-◌, ◌<◌, ◌≤◌, List, length, get_or, refl, sym, ap}
use Rattle.std.proofs.Common.{◌∙◌, inl, inr, arith, Option, Some, None, slice_get, IsSomeAnd}
use Rattle.std.proofs.lemmas.Bool.{cases_lt}
use Rattle.std.proofs.lemmas.Option.{slice_get-get_or, slice_get_within}
use Rattle.region_pool.specs.declared.mark.Mark.{Mark}
use Rattle.region_pool.specs.declared.mark.Mark.TheVariants as mark
use Rattle.region_pool.specs.declared.ticket.Purpose.{Purpose}
use Rattle.region_pool.specs.declared.ticket.Purpose.TheVariants as purpose
use Rattle.region_pool.specs.Marks.{IsPool, IsTaken}
use Rattle.region_pool.specs.Spans.{Span, end_of, first_mark, Holds, HasFrame, IsSpanAt}
use Rattle.region_pool.specs.Spans.{LiesInOneSpan}
use Rattle.region_pool.proofs.HeldSpans.{held-from_stands, stands-from_held, taken-stands}
use Rattle.region_pool.proofs.HeldSpans.{held_apart}

-- a taken frame is in the pool, and not free
pub taken-not_free : (marks : List Mark) (frame : ℕ) → IsTaken marks frame
    → slice_get marks frame ≢ Some mark.Free
taken-not_free marks frame taken free = at (slice_get marks frame) taken free
  where
    at : (found : Option Mark) → IsSomeAnd found (λ m. m ≢ mark.Free) → found ≢ Some mark.Free
    at None t e = cc
    at (Some m) t e = t cc

pub taken-from_mark : (marks : List Mark) (frame : ℕ) (m : Mark) → slice_get marks frame ≡ Some m
    → m ≢ mark.Free → IsTaken marks frame
taken-from_mark marks frame m e n = rw e n

pub taken_within : (marks : List Mark) (frame : ℕ) → IsTaken marks frame → frame < length marks
taken_within marks frame taken = at (slice_get marks frame) refl taken
  where
    at : (found : Option Mark) → slice_get marks frame ≡ found
        → IsSomeAnd found (λ m. m ≢ mark.Free) → frame < length marks
    at None e t = absurd t
    at (Some m) e t = slice_get_within marks frame m e

-- a frame of a held span is taken
pub taken-held : (marks : List Mark) (span : Span) (frame : ℕ) → Holds marks span
    → HasFrame span frame → IsTaken marks frame
taken-held marks span frame held inside =
    let s = stands-from_held marks span held in
    let within : frame < length marks =
    (let w = s.within in let u = inside.unended in omega arith) in
    let here = slice_get-get_or marks frame mark.Free within in
    taken-from_mark marks frame _ here
    (λ e. taken-stands marks span s frame inside.begun inside.unended (here ∙ ap Some e))

-- a mark that begins a span shows whom it serves
serves : (m : Mark) → m ≢ mark.Free → m ≢ mark.Next → (p : Purpose) × (m ≡ first_mark p)
serves mark.Free f n = absurd (f refl)
serves mark.Host f n = (purpose.Host, refl)
serves mark.Launch f n = (purpose.Launch, refl)
serves mark.Next f n = absurd (n refl)

-- where the frames round a frame show that a span goes from `first` to `stop`
pub record Extends (marks : List Mark) (frame first stop : ℕ) : Type 0 where
  pub before : first ≤ frame
  pub begins : slice_get marks first ≢ Some mark.Next
  pub back : (k : ℕ) → first < k → k ≤ frame → slice_get marks k ≡ Some mark.Next
  pub after : frame < stop
  pub within : stop ≤ length marks
  pub ends : slice_get marks stop ≢ Some mark.Next
  pub ahead : (k : ℕ) → frame < k → k < stop → slice_get marks k ≡ Some mark.Next

-- its first frame is not free
first-not_free : (marks : List Mark) (frame first stop : ℕ) → IsPool marks → IsTaken marks frame
    → Extends marks frame first stop → slice_get marks first ≢ Some mark.Free
first-not_free marks frame first stop pool taken x free =
    elim (cases_lt first frame) [
      | inl l ↦ pool.continued (suc first) free (x.back (suc first) (omega arith) (omega arith))
      | inr l ↦ (let b = x.before in let e : first ≡ frame = omega arith in
          taken-not_free marks frame taken (ap (slice_get marks) (sym e) ∙ free))
    ]

pub span_at-extends : (marks : List Mark) (frame first stop : ℕ) → IsPool marks
    → IsTaken marks frame → Extends marks frame first stop
    → IsSpanAt marks frame first (stop - first)
span_at-extends marks frame first stop pool taken x =
    let order = x.before in
    let after = x.after in
    let inside = x.within in
    let here = slice_get-get_or marks first mark.Free (omega arith) in
    let whom = serves (get_or marks first mark.Free)
    (λ e. first-not_free marks frame first stop pool taken x (here ∙ ap Some e))
    (λ e. x.begins (here ∙ ap Some e)) in
    let span : Span = record { first = first; frames = stop - first; purpose = whom.0 } in
    let stop_is : end_of span ≡ stop = omega arith in
    record {
      span = span;
      held = held-from_stands marks span (record {
        some = omega arith;
        within = omega arith;
        begins = here ∙ ap Some whom.1;
        continues = λ k l h. elim (cases_lt frame k) [
          | inl m ↦ x.ahead k m (omega arith)
          | inr m ↦ x.back k l m
        ];
        ends = λ e. x.ends (ap (slice_get marks) (sym stop_is) ∙ e);
      });
      inside = record { begun = omega arith; unended = omega arith };
      begins = refl;
      long = refl;
    }

-- two held spans that have one frame in common are the same
pub same_from_frame : (marks : List Mark) (one other : Span) (frame : ℕ) → Holds marks one
    → Holds marks other → HasFrame one frame → HasFrame other frame → one ≡ other
same_from_frame marks one other frame h k a b =
    let begun = a.begun in let unended = a.unended in
    let also_begun = b.begun in let also_unended = b.unended in
    elim (held_apart marks one other h k) [
      | inl e ↦ e
      | inr (inl l) ↦ absurd (omega arith)
      | inr (inr l) ↦ absurd (omega arith)
    ]

pub one_span-span_at : (marks : List Mark) (frame first frames : ℕ)
    → IsSpanAt marks frame first frames → LiesInOneSpan marks frame
one_span-span_at marks frame first frames at = record {
  span = at.span;
  held = at.held;
  inside = at.inside;
  only = λ other held inside. same_from_frame marks other at.span frame held at.held inside
      at.inside;
}
