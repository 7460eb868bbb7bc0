-- What the marks of frames say of the platform's spans, and the other way round.
use Rattle.std.proofs.Common.{◌≡◌, ℕ, zero, suc, ◌+◌, ◌%◌, ◌<◌, ◌≤◌, Bool, true, false, not, ◌&&◌, eqb, leb, ltb, List, [], ◌∷◌, length, take, drop, map, find, get_or, ◌==◌, refl, sym, ap, subst, ◌∙◌, inl, inr, arith, Some, None, drop-cons}
use Rattle.std.specs.List.{AllByRecursion, list_all, range_with_len}
use Rattle.std.proofs.lemmas.Bool.{cases_Bool, cases_lt, or_cases, or_left, or_right, and_parts, and_from, both_ways, false_from_ne_true, leb-true, ltb-true, le-leb, lt-ltb, eqb-true, eq-eqb}
use Rattle.std.proofs.lemmas.List.{get_or-map, get_or_past, length-map}
use Rattle.std.proofs.lemmas.Option.{slice_get-get_or, get_or_from_slice_get}
use Rattle.region_pool.specs.declared.mark.Mark.{Mark}
use Rattle.region_pool.specs.declared.mark.Mark.TheVariants as mark
use Rattle.region_pool.specs.Marks.{IsTaken, is_free}
use Rattle.region_pool.specs.Spans.{Span, marks_at, Holds, HasFrame}
use Rattle.region_pool.specs.Places.{IsLowestPlace, HasNoPlace, is_place, place as pool_place}
use Rattle.region_pool.proofs.FrameSpans.{taken-held, taken-not_free, taken_within, same_from_frame}
use Rattle.region_pool.proofs.HeldSpans.{length-marks_at, within-marks_at}
use Rattle.region_pool.proofs.PlaceLemmas.{place-lowest, place-none}
use Rattle.machine_memory.specs.Contents.{Contents, frame_count, first_byte, frame_of}
use Rattle.machine_memory.specs.Spans.{LiesIn, LiesInSpan}
use Rattle.machine_memory.specs.DeviceWrites.{is_open, may_write}
use Rattle.machine_memory.specs.HostMemory.{HostSpan, HostMemory, has_frame, is_taken, fits, place, has_bytes, are_taken, are_open}
use Rattle.flk_run.specs.Parts.{as_host, MarksAre, MemoryStands}

-- ---- frames

pub frame_from_test : (frame : ℕ) (s : HostSpan) → has_frame frame s ≡ true
    → HasFrame (as_host s) frame
frame_from_test frame s e =
    let parts = and_parts (leb s.first frame) (ltb frame (s.first + s.frames)) e in
    record { begun = leb-true _ _ parts.0; unended = ltb-true _ _ parts.1 }

pub test_from_frame : (frame : ℕ) (s : HostSpan) → HasFrame (as_host s) frame
    → has_frame frame s ≡ true
test_from_frame frame s h =
    and_from _ _ (le-leb s.first frame h.begun) (lt-ltb frame (s.first + s.frames) h.unended)

-- a frame in one of the spans is taken
pub taken_mark : (marks : List Mark) (spans : List HostSpan) (frame : ℕ)
    → AllByRecursion (Holds marks) (map as_host spans) → is_taken spans frame ≡ true
    → IsTaken marks frame
taken_mark marks [] frame held e = absurd (both_ways false refl e)
taken_mark marks (s ∷ ss) frame held e = elim (or_cases (has_frame frame s) (is_taken ss frame) e) [
  | inl here ↦ taken-held marks (as_host s) frame held.0 (frame_from_test frame s here)
  | inr later ↦ taken_mark marks ss frame held.1 later
]

not_free : (m : Mark) → (m ≡ mark.Free → ⊥) → is_free m ≡ false
not_free mark.Free n = absurd (n refl)
not_free mark.Host n = refl
not_free mark.Launch n = refl
not_free mark.Next n = refl

-- a frame is free exactly where it lies in no span
pub free_here : (marks : List Mark) (spans : List HostSpan) (frame : ℕ) → MarksAre marks spans
    → frame < frame_count → is_free (get_or marks frame mark.Free) ≡ not (is_taken spans frame)
free_here marks spans frame h few =
    let within : frame < length marks = omega (arith, h.count) in
    let here = slice_get-get_or marks frame mark.Free within in
    elim (cases_Bool (is_taken spans frame)) [
      | inl taken ↦ not_free _ (λ e. taken-not_free marks frame
          (taken_mark marks spans frame h.held.held taken) (here ∙ ap Some e)) ∙ sym (ap not taken)
      | inr none ↦ ap is_free (get_or_from_slice_get marks frame mark.Free mark.Free
          (h.free frame few none)) ∙ sym (ap not none)
    ]

-- ---- places

free_run : (marks : List Mark) (spans : List HostSpan) → MarksAre marks spans → (n first : ℕ)
    → first + n ≤ frame_count
    → list_all is_free (take n (drop first marks))
    ≡ list_all (λ frame. not (is_taken spans frame)) (range_with_len first n)
free_run marks spans h zero first fit = refl
free_run marks spans h (suc n) first fit =
    let within : first < length marks = omega (arith, h.count) in
    let next : suc first ≡ first + 1 = omega arith in
    let cut : drop first marks ≡ get_or marks first mark.Free ∷ drop
    (first + 1) marks = drop-cons marks first mark.Free within
    ∙ ap (λ k. get_or marks first mark.Free ∷ drop k marks) next in
    let rest = list_all (λ frame. not (is_taken spans frame)) (range_with_len (first + 1) n) in
    ap (λ (ms : List Mark). list_all is_free (take (suc n) ms)) cut
    ∙ ap (λ b. b && list_all is_free (take n (drop (first + 1) marks)))
    (free_here marks spans first h (omega arith))
    ∙ ap (λ b. not (is_taken spans first) && b) (free_run marks spans h n (first + 1) (omega arith))

-- what stands after a test that fails does not matter
never : (a b c : Bool) → (a && false && b) ≡ (a && false && c)
never true b c = refl
never false b c = refl

fits_is_place : (marks : List Mark) (spans : List HostSpan) (n align first : ℕ)
    → MarksAre marks spans → 1 ≤ n → fits spans n align first ≡ is_place marks n align first
fits_is_place marks spans n align first h some = elim (cases_lt frame_count (first + n)) [
  | inl past ↦
      let out : leb (first + n) frame_count
      ≡ false = false_from_ne_true _ (λ e. let l = leb-true (first + n) frame_count e in
      omega arith) in
      let long : eqb (length (marks_at marks first n)) n ≡ false = false_from_ne_true _
      (λ e. let w = within-marks_at marks first n some
      (eqb-true (length (marks_at marks first n)) n e) in omega (arith, h.count)) in
      rw (out, long) (never (first % align == 0) _ _)
  | inr inside ↦
      let fit : leb (first + n) frame_count ≡ true = le-leb (first + n) frame_count inside in
      let long : eqb (length (marks_at marks first n)) n
      ≡ true = eq-eqb _ n (length-marks_at marks first n (omega (arith, h.count))) in
      rw (fit, long) (ap (λ b. (first % align == 0) && true && b)
      (sym (free_run marks spans h n first inside)))
]

find_same : (p q : ℕ → Bool) → ((k : ℕ) → p k ≡ q k) → (xs : List ℕ) → find p xs ≡ find q xs
find_same p q same [] = refl
find_same p q same (x ∷ xs) = rw (same x, find_same p q same xs) refl

-- a span goes where the pool's lowest place is
pub place_agrees : (marks : List Mark) (spans : List HostSpan) (n align : ℕ) → MarksAre marks spans
    → 1 ≤ n → place spans n align ≡ pool_place marks n align
unfolding place pool_place
place_agrees marks spans n align h some =
    find_same (fits spans n align) (is_place marks n align)
    (λ first. fits_is_place marks spans n align first h some) (range_with_len 0 frame_count)
    ∙ ap (λ count. find (is_place marks n align) (range_with_len 0 count)) (sym h.count)

pub place_found : (marks : List Mark) (spans : List HostSpan) (n align first : ℕ)
    → MarksAre marks spans → 1 ≤ n → IsLowestPlace marks n align first
    → place spans n align ≡ Some first
place_found marks spans n align first h some lowest =
    place_agrees marks spans n align h some ∙ place-lowest marks n align first some lowest

pub place_missing : (marks : List Mark) (spans : List HostSpan) (n align : ℕ) → MarksAre marks spans
    → 1 ≤ n → HasNoPlace marks n align → place spans n align ≡ None
place_missing marks spans n align h some none =
    place_agrees marks spans n align h some ∙ place-none marks n align some none

-- ---- bytes of one span

bytes_from_test : (at count : ℕ) (s : HostSpan) → has_bytes at count s ≡ true
    → LiesIn (as_host s) at count
bytes_from_test at count s e =
    let parts = and_parts (leb (first_byte s.first) at)
    (leb (at + count) (first_byte (s.first + s.frames))) e in
    record { begins = leb-true _ _ parts.0; ends = leb-true _ _ parts.1 }

test_from_bytes : (at count : ℕ) (s : HostSpan) → LiesIn (as_host s) at count
    → has_bytes at count s ≡ true
test_from_bytes at count s h =
    and_from _ _ (le-leb (first_byte s.first) at h.begins)
    (le-leb (at + count) (first_byte (s.first + s.frames)) h.ends)

lies_held : (marks : List Mark) (spans : List HostSpan) (at count : ℕ)
    → AllByRecursion (Holds marks) (map as_host spans) → are_taken spans at count ≡ true
    → LiesInSpan marks at count
lies_held marks [] at count held e = absurd (both_ways false refl e)
lies_held marks (s ∷ ss) at count held e =
    elim (or_cases (has_bytes at count s) (are_taken ss at count) e) [
      | inl here ↦ record { span = as_host s; held = held.0; inside = bytes_from_test at count s here }
      | inr later ↦ lies_held marks ss at count held.1 later
    ]

-- the span of a frame is among those that are held
among : (marks : List Mark) (spans : List HostSpan) (span : Span) (frame at count : ℕ)
    → AllByRecursion (Holds marks) (map as_host spans) → Holds marks span → HasFrame span frame
    → LiesIn span at count
    → is_taken spans frame ≡ true → are_taken spans at count ≡ true
among marks [] span frame at count held holds inside lies e = absurd (both_ways false refl e)
among marks (s ∷ ss) span frame at count held holds inside lies e =
    elim (or_cases (has_frame frame s) (is_taken ss frame) e) [
      | inl here ↦
          let same : span ≡ as_host s = same_from_frame marks span
          (as_host s) frame holds held.0 inside (frame_from_test frame s here) in
          let lies_here : LiesIn (as_host s) at count = subst
          (λ (x : Span). LiesIn x at count) same lies in
          or_left (has_bytes at count s) (are_taken ss at count)
          (test_from_bytes at count s lies_here)
      | inr later ↦ or_right (has_bytes at count s) (are_taken ss at count)
          (among marks ss span frame at count held.1 holds inside lies later)
    ]

pub lies_taken : (marks : List Mark) (spans : List HostSpan) (at count : ℕ) → MarksAre marks spans
    → LiesInSpan marks at count → are_taken spans at count ≡ true
lies_taken marks spans at count h lies =
    let some = lies.held.some in
    let inside : HasFrame lies.span lies.span.first =
    record { begun = omega arith; unended = omega arith } in
    let taken = taken-held marks lies.span lies.span.first lies.held inside in
    let few : lies.span.first < frame_count = omega
    (arith, taken_within marks lies.span.first taken, h.count) in
    elim (cases_Bool (is_taken spans lies.span.first)) [
      | inl found ↦ among marks spans lies.span lies.span.first at count h.held.held lies.held inside lies.inside found
      | inr none ↦ absurd (taken-not_free marks lies.span.first taken
          (h.free lies.span.first few none))
    ]

pub taken_lies : (marks : List Mark) (spans : List HostSpan) (at count : ℕ) → MarksAre marks spans
    → are_taken spans at count ≡ true → LiesInSpan marks at count
taken_lies marks spans at count h e = lies_held marks spans at count h.held.held e

pub not_taken : (marks : List Mark) (spans : List HostSpan) (at count : ℕ) → MarksAre marks spans
    → (LiesInSpan marks at count → ⊥) → are_taken spans at count ≡ false
not_taken marks spans at count h out =
    false_from_ne_true _ (λ e. out (taken_lies marks spans at count h e))

-- ---- bytes that a device may write

not_twice : (b : Bool) → not (not b) ≡ b
not_twice true = refl
not_twice false = refl

pub open_frame : (marks : List Mark) (spans : List HostSpan) (frame : ℕ) → MarksAre marks spans
    → not (get_or (map is_free marks) frame true) ≡ is_taken spans frame
open_frame marks spans frame h = elim (cases_lt frame frame_count) [
  | inl few ↦
      let within : frame < length marks = omega (arith, h.count) in
      ap not (get_or-map is_free marks frame mark.Free true within
      ∙ free_here marks spans frame h few)
      ∙ not_twice (is_taken spans frame)
  | inr past ↦
      ap not (get_or_past (map is_free marks) frame true
      (omega (arith, h.count, length-map marks is_free)))
      ∙ sym (false_from_ne_true _ (λ e. let w = taken_within marks frame
      (taken_mark marks spans frame h.held.held e) in omega (arith, h.count)))
]

pub all_same : (p q : ℕ → Bool) → ((k : ℕ) → p k ≡ q k) → (xs : List ℕ) → list_all p xs ≡ list_all q xs
all_same p q same [] = refl
all_same p q same (x ∷ xs) = rw (same x, all_same p q same xs) refl

pub may_write_open : (p : HostMemory) (m : Contents) (at count : ℕ) → MemoryStands p m
    → may_write m.excluded at count ≡ are_open p.spans at count
unfolding may_write
may_write_open p m at count s =
    ap (λ (bits : List Bool). list_all (is_open bits) (range_with_len at count)) s.excluded
    ∙ all_same (is_open (map is_free m.marks)) (λ byte. is_taken p.spans (frame_of byte))
    (λ byte. open_frame m.marks p.spans (frame_of byte) s.marks) (range_with_len at count)
