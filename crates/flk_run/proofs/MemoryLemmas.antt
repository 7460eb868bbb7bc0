-- Memory and the platform's memory, each changed by one event.
use Rattle.std.proofs.Common.{◌≡◌, ℕ, zero, suc, ◌+◌, ◌-◌, ◌≤◌, Bool, true, false, not, List, [], ◌∷◌, ◌++◌, length, take, drop, map, filter, replicate, refl, sym, ap, subst, ◌∙◌, inl, inr, arith}
use Rattle.std.specs.List.{AllByRecursion}
use Rattle.std.proofs.lemmas.Bool.{cases_Bool, cases_lt, or_parts, or_from, both_ways, false_from_ne_true, eqb-true, eq-eqb}
use Rattle.std.proofs.lemmas.List.{length-replicate, length-map, map-append, take-map, drop-map}
use Rattle.region_pool.specs.declared.mark.Mark.{Mark}
use Rattle.region_pool.specs.declared.mark.Mark.TheVariants as mark
use Rattle.region_pool.specs.Marks.{is_free}
use Rattle.region_pool.specs.Spans.{Span, end_of, marks_of, Holds, IsDisjoint, HasFrame, with_marks}
use Rattle.region_pool.proofs.Frames.{slice_get-replicate}
use Rattle.region_pool.proofs.FrameSpans.{same_from_frame}
use Rattle.region_pool.proofs.HeldSpans.{replaces-with_marks, stands-from_held, length-marks_of}
use Rattle.region_pool.proofs.Search.{within-place}
use Rattle.machine_memory.specs.Writes.{written}
use Rattle.machine_memory.specs.Contents.{Contents, first_byte, frame_count, blank}
use Rattle.machine_memory.specs.Spans.{after_give}
use Rattle.machine_memory.specs.HostMemory.{HostSpan, HostMemory, blank_memory, has_frame, is_taken, starts_at, with_span, without_span}
use Rattle.flk_run.specs.Parts.{as_host, AreApart, HoldsSpans, MarksAre, MemoryStands}
use Rattle.flk_run.specs.Taking.{Took}
use Rattle.flk_run.proofs.MarkLemmas.{frame_from_test, test_from_frame}
use Rattle.flk_run.proofs.TicketLemmas.{holds_more}

-- ---- exclusion bits

-- the test of marks of which some were made others
tests_replaced : (marks others : List Mark) (first n : ℕ) (bits : List Bool) → length others ≡ n
    → map is_free others ≡ bits
    → written (map is_free marks) first bits ≡ map is_free (with_marks marks first n others)
tests_replaced marks others first n bits long same =
    let count : length bits ≡ n = sym (ap length same) ∙ length-map others is_free ∙ long in
    ap (λ k. (take first (map is_free marks) ++ bits) ++ drop (first + k) (map is_free marks)) count
    ∙ ap (λ (bs : List Bool). (take first (map is_free marks) ++ bs)
    ++ drop (first + n) (map is_free marks)) (sym same)
    ∙ ap (λ (bs : List Bool). (bs ++ map is_free others) ++ drop (first + n) (map is_free marks))
    (take-map is_free first marks)
    ∙ ap (λ (bs : List Bool). (map is_free (take first marks) ++ map is_free others) ++ bs)
    (drop-map is_free (first + n) marks)
    ∙ ap (λ (bs : List Bool). bs ++ map is_free (drop (first + n) marks))
    (sym (map-append is_free (take first marks) others))
    ∙ sym (map-append is_free (take first marks ++ others) (drop (first + n) marks))

all_next : (n : ℕ) → map is_free (replicate n mark.Next) ≡ replicate n false
all_next zero = refl
all_next (suc n) = ap (λ (bs : List Bool). false ∷ bs) (all_next n)

all_free : (n : ℕ) → map is_free (replicate n mark.Free) ≡ replicate n true
all_free zero = refl
all_free (suc n) = ap (λ (bs : List Bool). true ∷ bs) (all_free n)

taken_bits : (s : HostSpan) → 1 ≤ s.frames
    → map is_free (marks_of (as_host s)) ≡ replicate s.frames false
taken_bits s some =
    let one : suc (s.frames - 1) ≡ s.frames = omega arith in
    ap (λ (bs : List Bool). false ∷ bs) (all_next (s.frames - 1)) ∙ ap (λ n. replicate n false) one

-- ---- a span taken

not_taken_more : (spans : List HostSpan) (s : HostSpan) (frame : ℕ)
    → is_taken (spans ++ s ∷ []) frame ≡ false
    → (is_taken spans frame ≡ false) × (has_frame frame s ≡ false)
not_taken_more [] s frame e = (refl, (or_parts (has_frame frame s) false e).0)
not_taken_more (o ∷ os) s frame e =
    let parts = or_parts (has_frame frame o) (is_taken (os ++ s ∷ []) frame) e in
    let rest = not_taken_more os s frame parts.1 in
    (or_from (has_frame frame o) (is_taken os frame) parts.0 rest.0, rest.1)

-- the marks after it
marks_taken : (marks : List Mark) (spans : List HostSpan) (s : HostSpan) → MarksAre marks spans
    → 1 ≤ s.frames → s.first + s.frames ≤ length marks
    → HoldsSpans (with_marks marks s.first s.frames (marks_of (as_host s)))
    (map as_host spans ++ as_host s ∷ [])
    → MarksAre (with_marks marks s.first s.frames (marks_of (as_host s))) (spans ++ s ∷ [])
marks_taken marks spans s h some within held =
    let new : List Mark = with_marks marks s.first s.frames (marks_of (as_host s)) in
    let r = replaces-with_marks marks (as_host s) (marks_of (as_host s)) within
    (length-marks_of (as_host s) some) in
    record {
      count = r.long ∙ h.count;
      held = subst (λ (xs : List Span). HoldsSpans new xs)
          (sym (map-append as_host spans (s ∷ []))) held;
      free = λ frame few none.
          let parts = not_taken_more spans s frame none in
          elim (cases_lt frame s.first) [
            | inl l ↦ r.below frame l ∙ h.free frame few parts.0
            | inr l ↦ elim (cases_lt frame (end_of (as_host s))) [
              | inl u ↦ absurd (both_ways (has_frame frame s) parts.1
                  (test_from_frame frame s (record { begun = l; unended = u })))
              | inr u ↦ r.above frame u ∙ h.free frame few parts.0
            ]
          ];
    }

-- memory after it
pub memory_taken : (p : HostMemory) (m new : Contents) (s : HostSpan) → MemoryStands p m
    → 1 ≤ s.frames → Took s.frames m new (as_host s)
    → MemoryStands (with_span s.first s.frames p) new
memory_taken p m new s h some took =
    let within : s.first + s.frames ≤ length m.marks = within-place m.marks s.frames 1 s.first some took.lowest.place in
    let taken = took.taken in
    let Now : Contents → Type 0 = λ c. MemoryStands (with_span s.first s.frames p) c in
    subst Now (sym taken) (record {
      bytes = h.bytes;
      marks = marks_taken m.marks p.spans s h.marks some within
          (subst (λ (c : Contents). HoldsSpans c.marks
          (map as_host p.spans ++ as_host s ∷ [])) taken
          (holds_more s.frames m new (map as_host p.spans) (as_host s) took h.marks.held));
      excluded = ap (λ (bits : List Bool). written bits s.first
          (replicate s.frames false)) h.excluded
          ∙ tests_replaced m.marks (marks_of (as_host s)) s.first s.frames
          (replicate s.frames false) (length-marks_of (as_host s) some) (taken_bits s some);
    })

-- ---- a span given back

held_left : (marks new : List Mark) (span : HostSpan) (spans : List HostSpan)
    → ((other : Span) → Holds marks other → (other ≡ as_host span → ⊥) → Holds new other)
    → AllByRecursion (Holds marks) (map as_host spans)
    → AllByRecursion (Holds new) (map as_host
    (filter (λ other. not (starts_at (first_byte span.first) other)) spans))
held_left marks new span [] stay held = tt
held_left marks new span (s ∷ ss) stay held =
    elim (cases_Bool (starts_at (first_byte span.first) s)) [
      | inl yes' ↦ rw yes' (held_left marks new span ss stay held.1)
      | inr no' ↦ rw no' (
        stay (as_host s) held.0 (λ same. both_ways _ no'
            (eq-eqb (first_byte s.first) (first_byte span.first)
            (ap (λ (x : Span). first_byte x.first) same))),
        held_left marks new span ss stay held.1,
      )
    ]

all_left : (P : Span → Type 0) (q : HostSpan → Bool) (spans : List HostSpan)
    → AllByRecursion P (map as_host spans) → AllByRecursion P (map as_host (filter q spans))
all_left P q [] all = tt
all_left P q (s ∷ ss) all = elim (cases_Bool (q s)) [
  | inl yes' ↦ rw yes' (all.0, all_left P q ss all.1)
  | inr no' ↦ rw no' (all_left P q ss all.1)
]

apart_left : (q : HostSpan → Bool) (spans : List HostSpan) → AreApart (map as_host spans)
    → AreApart (map as_host (filter q spans))
apart_left q [] apart = tt
apart_left q (s ∷ ss) apart = elim (cases_Bool (q s)) [
  | inl yes' ↦ rw yes' (all_left (IsDisjoint (as_host s)) q ss apart.0, apart_left q ss apart.1)
  | inr no' ↦ rw no' (apart_left q ss apart.1)
]

not_taken_left : (marks : List Mark) (span : HostSpan) (spans : List HostSpan) (frame : ℕ)
    → Holds marks (as_host span) → AllByRecursion (Holds marks) (map as_host spans)
    → (HasFrame (as_host span) frame → ⊥)
    → is_taken (filter (λ other. not (starts_at (first_byte span.first) other)) spans) frame ≡ false
    → is_taken spans frame ≡ false
not_taken_left marks span [] frame holds held out e = refl
not_taken_left marks span (s ∷ ss) frame holds held out e =
    elim (cases_Bool (starts_at (first_byte span.first) s)) [
      | inl yes' ↦
          let first : s.first ≡ span.first = omega
          (arith, eqb-true (first_byte s.first) (first_byte span.first) yes') in
          let some = held.0.some in
          let some_too = holds.some in
          let same : as_host s ≡ as_host span = same_from_frame marks (as_host s)
          (as_host span) s.first held.0 holds
          (record { begun = omega arith; unended = omega arith })
          (record { begun = omega arith; unended = omega arith }) in
          let here : has_frame frame s ≡ false = false_from_ne_true _
          (λ h. out (subst (λ (x : Span). HasFrame x frame) same
          (frame_from_test frame s h))) in
          or_from (has_frame frame s) (is_taken ss frame) here
          (not_taken_left marks span ss frame holds held.1 out (rw yes' at e))
      | inr no' ↦
          let parts = or_parts (has_frame frame s)
          (is_taken (filter (λ other. not (starts_at (first_byte span.first) other)) ss) frame)
          (rw no' at e) in
          or_from (has_frame frame s) (is_taken ss frame) parts.0
          (not_taken_left marks span ss frame holds held.1 out parts.1)
    ]

marks_given : (marks : List Mark) (spans : List HostSpan) (s : HostSpan) → MarksAre marks spans
    → Holds marks (as_host s)
    → ((other : Span) → Holds marks other → (other ≡ as_host s → ⊥)
    → Holds (with_marks marks s.first s.frames (replicate s.frames mark.Free)) other)
    → MarksAre (with_marks marks s.first s.frames (replicate s.frames mark.Free))
    (filter (λ other. not (starts_at (first_byte s.first) other)) spans)
marks_given marks spans s h holds stay =
    let new : List Mark = with_marks marks s.first s.frames (replicate s.frames mark.Free) in
    let r = replaces-with_marks marks (as_host s) (replicate s.frames mark.Free)
    (stands-from_held marks (as_host s) holds).within (length-replicate s.frames mark.Free) in
    record {
      count = r.long ∙ h.count;
      held = record {
        held = held_left marks new s spans stay h.held.held;
        apart = apart_left
            (λ other. not (starts_at (first_byte s.first) other)) spans h.held.apart;
      };
      free = λ frame few none. elim (cases_lt frame s.first) [
        | inl l ↦ r.below frame l ∙ h.free frame few
            (not_taken_left marks s spans frame holds h.held.held
            (λ f. let b = f.begun in absurd (omega arith)) none)
        | inr l ↦ elim (cases_lt frame (end_of (as_host s))) [
          | inl u ↦ r.inside (frame - s.first) frame (omega arith) (omega arith)
              ∙ slice_get-replicate s.frames mark.Free (frame - s.first) (omega arith)
          | inr u ↦ r.above frame u ∙ h.free frame few
              (not_taken_left marks s spans frame holds h.held.held
              (λ f. let b = f.unended in absurd (omega arith)) none)
        ]
      ];
    }

pub memory_given : (p : HostMemory) (m new : Contents) (s : HostSpan) → MemoryStands p m
    → Holds m.marks (as_host s) → new ≡ after_give m (as_host s)
    → ((other : Span) → Holds m.marks other → (other ≡ as_host s → ⊥) → Holds new.marks other)
    → MemoryStands (without_span s p) new
memory_given p m new s h holds given stay =
    let Now : Contents → Type 0 = λ c. MemoryStands (without_span s p) c in
    subst Now (sym given) (record {
      bytes = ap (λ (bytes : List ℕ). written bytes (first_byte s.first)
          (replicate (first_byte s.frames) 0)) h.bytes;
      marks = marks_given m.marks p.spans s h.marks holds
          (λ other held apart. subst (λ (c : Contents). Holds c.marks other) given
          (stay other held apart));
      excluded = ap (λ (bits : List Bool). written bits s.first
          (replicate s.frames true)) h.excluded
          ∙ tests_replaced m.marks (replicate s.frames mark.Free) s.first s.frames
          (replicate s.frames true) (length-replicate s.frames mark.Free) (all_free s.frames);
    })

-- ---- bytes written

pub memory_written : (p : HostMemory) (m new : Contents) (at : ℕ) (bytes : List ℕ)
    → MemoryStands p m → new ≡ record m { bytes = written m.bytes at bytes }
    → MemoryStands (record p { bytes = written p.bytes at bytes }) new
memory_written p m new at bytes h is =
    let Now : Contents → Type 0 = λ c. MemoryStands
    (record p { bytes = written p.bytes at bytes }) c in
    subst Now (sym is)
    (record {
      bytes = ap
          (λ (old : List ℕ). written old at bytes) h.bytes;
      marks = h.marks;
      excluded = h.excluded;
    })

-- ---- power-on

-- memory as it is made is the platform's
pub memory_blank : MemoryStands blank_memory blank
memory_blank = record {
  bytes = refl;
  marks = record {
    count = length-replicate frame_count mark.Free;
    held =
        record { held = tt; apart = tt };
    free = λ frame few none. slice_get-replicate frame_count mark.Free frame few;
  };
  excluded = sym (all_free frame_count);
}
