-- What taking a span and giving it back does to blocks, and blocks that are all empty or all zero.
use Rattle.std.proofs.Common.{◌≡◌, ◌≢◌, ◌⊎◌, ℕ, ◌-◌, ◌<◌, ◌≤◌, List, [], length, get_or}
use Rattle.std.proofs.Common.{replicate, map, sym, ap, ◌∙◌, inl, inr, arith, Some, slice_get}
use Rattle.std.proofs.Common.{set, get_or-set_same}
use Rattle.std.proofs.lemmas.Bool.{cases_lt, cases_eq}
use Rattle.std.proofs.lemmas.List.{get_or_past, get_or-replicate, length-replicate, length-set}
use Rattle.std.proofs.lemmas.List.{get_or-map, length-map}
use Rattle.std.proofs.lemmas.Option.{slice_get_within}
use Rattle.region_pool.specs.declared.mark.Mark.{Mark}
use Rattle.region_pool.specs.declared.mark.Mark.TheVariants.{Free, Next}
use Rattle.region_pool.specs.Marks.{IsPool}
use Rattle.region_pool.specs.Places.{IsPlace}
use Rattle.region_pool.specs.Spans.{Span, end_of, Holds, HasFrame, IsDisjoint, with_span}
use Rattle.region_pool.specs.Spans.{marks_of, marks_at, without_span}
use Rattle.region_pool.proofs.Frames.{slice_get-replicate, same_at_each}
use Rattle.region_pool.proofs.HeldSpans.{Replaces, stands-from_held, taken-stands, first_mark-free}
use Rattle.region_pool.proofs.HeldSpans.{first_mark-next}
use Rattle.region_pool.proofs.PoolMarks.{taken_is, given_is, replaces-back, held-with_span}
use Rattle.region_pool.proofs.PoolMarks.{before-with_span, before-without_span}
use Rattle.region_pool.proofs.Search.{free-place, within-place}
use Rattle.machine_memory.specs.Writes.{written}
use Rattle.machine_memory.specs.Contents.{first_byte, frame_of}
use Rattle.machine_memory.specs.Blocks.{start_of, block_at, bytes_in, HasBlocks}
use Rattle.machine_memory.proofs.Pieces.{writes-written}
use Rattle.machine_memory.proofs.StartLemmas.{IsOutside, start-outside, start-replaced}
use Rattle.machine_memory.proofs.BlockLemmas.{length-bytes_in, slice_get-bytes_in, byte-free}
use Rattle.machine_memory.proofs.BlockLemmas.{bytes-held, bytes-apart, held_within, where_in}
use Rattle.machine_memory.proofs.BlockLemmas.{block-other, writes-apart}

-- where a frame stands to a span
frame_in : (span : Span) (frame : ℕ) → IsOutside span frame ⊎ HasFrame span frame
frame_in span frame =
    elim (cases_lt frame span.first) [
      | inl l ↦ inl (inl l)
      | inr l ↦ elim (cases_lt frame (end_of span)) [
        | inl h ↦ inr (record { begun = l; unended = h })
        | inr h ↦ inl (inr h)
      ]
    ]

outside-first : (span : Span) (frame : ℕ) → 1 ≤ span.frames → IsOutside span frame
    → frame ≢ span.first
outside-first span frame some (inl l) e = absurd (omega arith)
outside-first span frame some (inr l) e = absurd (omega arith)

apart-first : (span other : Span) → 1 ≤ span.frames → 1 ≤ other.frames → IsDisjoint span other
    → other.first ≢ span.first
apart-first span other some more (inl l) e = absurd (omega arith)
apart-first span other some more (inr l) e = absurd (omega arith)

mark-outside : (old new : List Mark) (span : Span) (others : List Mark)
    → Replaces old new span others → (frame : ℕ) → IsOutside span frame
    → slice_get new frame ≡ slice_get old frame
mark-outside old new span others r frame (inl l) = r.below frame l
mark-outside old new span others r frame (inr l) = r.above frame l

-- a span taken, with a block of zeros

-- as many zeros as the span has bytes
abbrev pub zeros_of : Span → List ℕ
zeros_of span = replicate (first_byte span.frames) 0

pub blocks-take : (marks : List Mark) (blocks : List (List ℕ)) (span : Span) (align : ℕ)
    → 1 ≤ span.frames → IsPlace marks span.frames align span.first → IsPool marks
    → HasBlocks marks blocks
    → HasBlocks (with_span marks span) (set blocks span.first (zeros_of span))
blocks-take marks blocks span align some place pool has =
    let within = within-place marks span.frames align span.first some place in
    let r = taken_is marks span some within in
    let held = held-with_span marks span align some place pool in
    let s = stands-from_held (with_span marks span) span held in
    let free = free-place marks span.frames align span.first place in
    let zeros : List ℕ = zeros_of span in
    let entries = has.entries in
    let same : block_at (set blocks span.first zeros) span.first ≡ zeros =
    get_or-set_same blocks span.first zeros [] (omega arith) in
    record {
      entries = length-set blocks span.first zeros ∙ has.entries ∙ sym r.long;
      of_span = λ other h. elim (before-with_span marks span align some place pool other h) [
        | inl e ↦ rw e (ap (λ (xs : List ℕ). length xs) same
            ∙ length-replicate (first_byte span.frames) 0)
        | inr before ↦ ap (λ (xs : List ℕ). length xs)
            (block-other blocks span.first other.first zeros
            (apart-first span other some h.some before.1))
            ∙ has.of_span other before.0
      ];
      of_free = λ frame f. elim (frame_in span frame) [
        | inl out ↦ block-other blocks span.first frame zeros (outside-first span frame some out)
            ∙ has.of_free frame
            (sym (mark-outside marks (with_span marks span) span (marks_of span) r frame out) ∙ f)
        | inr here ↦ absurd
            (taken-stands (with_span marks span) span s frame here.begun here.unended f)
      ];
      of_next = λ frame n. elim (frame_in span frame) [
        | inl out ↦ block-other blocks span.first frame zeros (outside-first span frame some out)
            ∙ has.of_next frame
            (sym (mark-outside marks (with_span marks span) span (marks_of span) r frame out) ∙ n)
        | inr here ↦ block-other blocks span.first frame zeros
            (λ e. first_mark-next span.purpose (let b = s.begins in cc))
            ∙ has.of_free frame (free frame here.begun here.unended)
      ];
    }

pub bytes-take : (marks : List Mark) (blocks : List (List ℕ)) (span : Span) (align : ℕ)
    → 1 ≤ span.frames → IsPlace marks span.frames align span.first → IsPool marks
    → HasBlocks marks blocks
    → bytes_in (with_span marks span) (set blocks span.first (zeros_of span))
    ≡ bytes_in marks blocks
bytes-take marks blocks span align some place pool has =
    let new : List Mark = with_span marks span in
    let within = within-place marks span.frames align span.first some place in
    let r = taken_is marks span some within in
    let back = replaces-back marks new span (marks_of span) r in
    let held = held-with_span marks span align some place pool in
    let free = free-place marks span.frames align span.first place in
    let zeros : List ℕ = zeros_of span in
    let after : List (List ℕ) = set blocks span.first zeros in
    let entries = has.entries in
    let same : block_at after span.first ≡ zeros =
    get_or-set_same blocks span.first zeros [] (omega arith) in
    let long : length (block_at after span.first) ≡ first_byte span.frames =
    ap (λ (xs : List ℕ). length xs) same ∙ length-replicate (first_byte span.frames) 0 in
    let new_long = length-bytes_in new after in
    let old_long = length-bytes_in marks blocks in
    let marks_long = r.long in
    same_at_each _ _ (new_long ∙ ap (λ (n : ℕ). first_byte n) marks_long ∙ sym old_long)
    (λ address h. elim (where_in span address) [
      | inl out ↦
          let start = start-replaced new marks span (marks_at marks span.first span.frames) back
          held.ends (frame_of address) out in
          bytes-apart marks new blocks span.first zeros address marks_long (omega arith) (sym start)
          (λ e. start-outside new span (frame_of address) held out (sym start ∙ e))
      | inr found ↦
          let near = found.2 in
          let at_is = found.1 in
          let was = free (frame_of address) (omega arith) (omega arith) in
          bytes-held new after span found.0 address held long near at_is
          ∙ ap (λ (xs : List ℕ). slice_get xs found.0) same
          ∙ slice_get-replicate (first_byte span.frames) 0 found.0 near
          ∙ sym
          (slice_get-bytes_in marks blocks address (omega arith)
          ∙ ap Some
          (byte-free marks blocks address was (has.of_free (frame_of address) was)))
    ])

-- a span given back, with its block

pub blocks-give : (marks : List Mark) (blocks : List (List ℕ)) (span : Span) → Holds marks span
    → HasBlocks marks blocks → HasBlocks (without_span marks span) (set blocks span.first [])
blocks-give marks blocks span held has =
    let new : List Mark = without_span marks span in
    let within = held_within marks span held in
    let r = given_is marks span held in
    let s = stands-from_held marks span held in
    let some = held.some in
    let entries = has.entries in
    let same : block_at (set blocks span.first []) span.first ≡ [] =
    get_or-set_same blocks span.first [] [] (omega arith) in
    record {
      entries = length-set blocks span.first [] ∙ has.entries ∙ sym r.long;
      of_span = λ other h.
          let before = before-without_span marks span held other h in
          ap (λ (xs : List ℕ). length xs)
          (block-other blocks span.first other.first []
          (apart-first span other some h.some before.1))
          ∙ has.of_span other before.0;
      of_free = λ frame f. elim (frame_in span frame) [
        | inl out ↦ block-other blocks span.first frame [] (outside-first span frame some out)
            ∙ has.of_free frame
            (sym (mark-outside marks new span (replicate span.frames Free) r frame out) ∙ f)
        | inr here ↦ elim (cases_eq frame span.first) [
          | inl e ↦ rw e same
          | inr other ↦
              let begun = here.begun in
              block-other blocks span.first frame [] other
              ∙ has.of_next frame (s.continues frame (omega arith) here.unended)
        ]
      ];
      of_next = λ frame n. elim (frame_in span frame) [
        | inl out ↦ block-other blocks span.first frame [] (outside-first span frame some out)
            ∙ has.of_next frame
            (sym (mark-outside marks new span (replicate span.frames Free) r frame out) ∙ n)
        | inr here ↦
            let begun = here.begun in
            let unended = here.unended in
            let is = r.inside (frame - span.first) frame (omega arith) (omega arith)
            ∙ slice_get-replicate span.frames Free (frame - span.first) (omega arith) in
            let clash : Some Free ≡ Some Next = sym is ∙ n in
            cc
      ];
    }

pub bytes-give : (marks : List Mark) (blocks : List (List ℕ)) (span : Span) → Holds marks span
    → HasBlocks marks blocks
    → bytes_in (without_span marks span) (set blocks span.first [])
    ≡ written (bytes_in marks blocks) (first_byte span.first) (zeros_of span)
bytes-give marks blocks span held has =
    let new : List Mark = without_span marks span in
    let within = held_within marks span held in
    let r = given_is marks span held in
    let after : List (List ℕ) = set blocks span.first [] in
    let now = blocks-give marks blocks span held has in
    let new_long = length-bytes_in new after in
    let old_long = length-bytes_in marks blocks in
    let marks_long = r.long in
    let zeros_long = length-replicate {A = ℕ} (first_byte span.frames) 0 in
    let w = writes-written (bytes_in marks blocks) (first_byte span.first) (zeros_of span)
    (omega arith) in
    same_at_each _ _
    (new_long ∙ ap (λ (n : ℕ). first_byte n) marks_long ∙ sym old_long ∙ sym w.long)
    (λ address h. elim (where_in span address) [
      | inl out ↦ bytes-apart marks new blocks span.first [] address marks_long (omega arith)
          (start-replaced marks new span (replicate span.frames Free) r held.ends (frame_of address)
          out)
          (start-outside marks span (frame_of address) held out)
          ∙ sym (writes-apart span (first_byte span.first) (zeros_of span) (bytes_in marks blocks) _
          (omega arith) (omega arith) w address out)
      | inr found ↦
          let near = found.2 in
          let at_is = found.1 in
          let is = r.inside (frame_of address - span.first) (frame_of address) (omega arith)
          (omega arith)
          ∙ slice_get-replicate span.frames Free (frame_of address - span.first) (omega arith) in
          slice_get-bytes_in new after address (omega arith)
          ∙ ap Some (byte-free new after address is (now.of_free (frame_of address) is))
          ∙ sym
          (w.inside found.0 address (omega arith) at_is
          ∙ slice_get-replicate (first_byte span.frames) 0 found.0 near)
    ])

-- no span is taken

pub blocks-blank : (n : ℕ) → HasBlocks (replicate n Free) (replicate n [])
blocks-blank n =
    let long = length-replicate n Free in
    record {
      entries = length-replicate {A = List ℕ} n [] ∙ sym long;
      of_span = λ span held.
          let s = stands-from_held (replicate n Free) span held in
          let within = s.within in
          let some = s.some in
          let is = slice_get-replicate n Free span.first (omega arith) in
          absurd (first_mark-free span.purpose (let b = s.begins in cc));
      of_free = λ frame f.
          let near = slice_get_within (replicate n Free) frame Free f in
          get_or-replicate {A = List ℕ} n frame [] [] (omega arith);
      of_next = λ frame f.
          let near = slice_get_within (replicate n Free) frame Next f in
          get_or-replicate {A = List ℕ} n frame [] [] (omega arith);
    }

pub bytes-blank : (n : ℕ) → bytes_in (replicate n Free) (replicate n [])
    ≡ replicate (first_byte n) 0
bytes-blank n =
    let marks : List Mark = replicate n Free in
    let marks_long : length marks ≡ n = length-replicate n Free in
    let long = length-bytes_in marks (replicate n []) in
    same_at_each _ _
    (long ∙ ap (λ (m : ℕ). first_byte m) marks_long ∙ sym (length-replicate (first_byte n) 0))
    (λ address h.
    let near : address < first_byte n = omega arith in
    let here : frame_of address < n = omega arith in
    slice_get-bytes_in marks (replicate n []) address (omega arith)
    ∙ ap Some
    (byte-free marks (replicate n []) address (slice_get-replicate n Free (frame_of address) here)
    (get_or-replicate {A = List ℕ} n (frame_of address) [] [] here))
    ∙ sym (slice_get-replicate (first_byte n) 0 address near))

-- all bytes zero

-- a block of zeros, as long as another
abbrev pub wiped : List ℕ → List ℕ
wiped block = replicate (length block) 0

block-wiped : (blocks : List (List ℕ)) (frame : ℕ)
    → block_at (map wiped blocks) frame ≡ wiped (block_at blocks frame)
block-wiped blocks frame =
    elim (cases_lt frame (length blocks)) [
      | inl l ↦ get_or-map wiped blocks frame [] [] l
      | inr l ↦ get_or_past (map wiped blocks) frame []
          (let long = length-map blocks wiped in omega arith)
          ∙ ap wiped (sym (get_or_past blocks frame [] l))
    ]

zero-anywhere : (n k : ℕ) → ◌≡◌ {A = ℕ} (get_or (replicate n 0) k 0) 0
zero-anywhere n k =
    elim (cases_lt k n) [
      | inl l ↦ get_or-replicate n k 0 0 l
      | inr l ↦ get_or_past (replicate n 0) k 0 (let long = length-replicate {A = ℕ} n 0 in
          omega arith)
    ]

pub blocks-wiped : (marks : List Mark) (blocks : List (List ℕ)) → HasBlocks marks blocks
    → HasBlocks marks (map wiped blocks)
blocks-wiped marks blocks has = record {
  entries = length-map blocks wiped ∙ has.entries;
  of_span = λ span held. ap (λ (xs : List ℕ). length xs) (block-wiped blocks span.first)
      ∙ length-replicate (length (block_at blocks span.first)) 0
      ∙ has.of_span span held;
  of_free = λ frame free. block-wiped blocks frame ∙ ap wiped (has.of_free frame free);
  of_next = λ frame next. block-wiped blocks frame ∙ ap wiped (has.of_next frame next);
}

pub bytes-wiped : (marks : List Mark) (blocks : List (List ℕ))
    → bytes_in marks (map wiped blocks) ≡ replicate (first_byte (length marks)) 0
bytes-wiped marks blocks =
    let long = length-bytes_in marks (map wiped blocks) in
    same_at_each _ _ (long ∙ sym (length-replicate (first_byte (length marks)) 0))
    (λ address h.
    let near : address < first_byte (length marks) = omega arith in
    let first : ℕ = start_of marks (frame_of address) in
    slice_get-bytes_in marks (map wiped blocks) address near
    ∙ ap Some
    (ap (λ (xs : List ℕ). get_or xs (address - first_byte first) 0) (block-wiped blocks first)
    ∙ zero-anywhere (length (block_at blocks first)) (address - first_byte first))
    ∙ sym (slice_get-replicate (first_byte (length marks)) 0 address near))
