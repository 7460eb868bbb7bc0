-- All bytes of memory, and the block of one span.
use Rattle.std.proofs.Common.{◌≡◌, ◌≢◌, ◌⊎◌, ℕ, ◌+◌, ◌-◌, ◌<◌, ◌≤◌, List, [], ◌∷◌, length}
use Rattle.std.proofs.Common.{get_or, set, refl, sym, ap, ◌∙◌, inl, inr, arith}
use Rattle.std.proofs.Common.{Some, slice_get, get_or-set_same, get_or-set_other, take, drop}
use Rattle.std.proofs.Common.{length-take, length-drop}
use Rattle.std.proofs.Math.Seq.{take-add}
use Rattle.std.proofs.lemmas.Bool.{cases_lt, cases_eq}
use Rattle.std.proofs.lemmas.List.{get_or_past, length-set}
use Rattle.std.proofs.lemmas.List.FromFn.{length-map-range_with_len, get_or-map-range_with_len}
use Rattle.std.proofs.lemmas.Option.{slice_get-get_or}
use Rattle.region_pool.specs.declared.mark.Mark.{Mark}
use Rattle.region_pool.specs.declared.mark.Mark.TheVariants.{Free}
use Rattle.region_pool.specs.Spans.{Span, end_of, Holds, IsSpanAt}
use Rattle.region_pool.proofs.Frames.{same_at_each}
use Rattle.region_pool.proofs.HeldSpans.{stands-from_held}
use Rattle.machine_memory.specs.Writes.{part, written}
use Rattle.machine_memory.specs.Contents.{first_byte, frame_of}
use Rattle.machine_memory.specs.Blocks.{start_of, block_at, byte_at, bytes_in, HasBlocks}
use Rattle.machine_memory.proofs.Pieces.{Writes, writes-written, slice_get-part, length-part}
use Rattle.machine_memory.proofs.Pieces.{written-after}
use Rattle.machine_memory.proofs.StartLemmas.{IsOutside, start-held, start-free, start-outside}

-- byte by byte

pub length-bytes_in : (marks : List Mark) (blocks : List (List ℕ))
    → length (bytes_in marks blocks) ≡ first_byte (length marks)
unfolding bytes_in
length-bytes_in marks blocks =
    length-map-range_with_len (byte_at marks blocks) 0 (first_byte (length marks))

get_or-bytes_in : (marks : List Mark) (blocks : List (List ℕ)) (address : ℕ)
    → address < first_byte (length marks)
    → get_or (bytes_in marks blocks) address 0 ≡ byte_at marks blocks address
unfolding bytes_in
get_or-bytes_in marks blocks address h =
    get_or-map-range_with_len (byte_at marks blocks) 0 (first_byte (length marks)) address address 0
    h (omega arith)

pub slice_get-bytes_in : (marks : List Mark) (blocks : List (List ℕ)) (address : ℕ)
    → address < first_byte (length marks)
    → slice_get (bytes_in marks blocks) address ≡ Some (byte_at marks blocks address)
slice_get-bytes_in marks blocks address h =
    slice_get-get_or (bytes_in marks blocks) address 0
    (let long = length-bytes_in marks blocks in omega arith)
    ∙ ap Some (get_or-bytes_in marks blocks address h)

-- the byte of a block, by the frame that it begins at
byte-from : (marks : List Mark) (blocks : List (List ℕ)) (address first : ℕ)
    → start_of marks (frame_of address) ≡ first
    → byte_at marks blocks address ≡ get_or (get_or blocks first []) (address - first_byte first) 0
byte-from marks blocks address first e =
    ap (λ (n : ℕ). get_or (get_or blocks n []) (address - first_byte n) 0) e

-- a free frame has zeros, where it has no block
pub byte-free : (marks : List Mark) (blocks : List (List ℕ)) (address : ℕ)
    → slice_get marks (frame_of address) ≡ Some Free → block_at blocks (frame_of address) ≡ []
    → byte_at marks blocks address ≡ 0
byte-free marks blocks address free none =
    let frame : ℕ = frame_of address in
    byte-from marks blocks address frame (start-free marks frame free)
    ∙ ap (λ (block : List ℕ). get_or block (address - first_byte frame) 0) none
    ∙ get_or_past [] (address - first_byte frame) 0 (omega arith)

-- a held span has the bytes of its block
pub bytes-held : (marks : List Mark) (blocks : List (List ℕ)) (span : Span) (k address : ℕ)
    → Holds marks span → length (block_at blocks span.first) ≡ first_byte span.frames
    → k < first_byte span.frames → first_byte span.first + k ≡ address
    → slice_get (bytes_in marks blocks) address ≡ slice_get (block_at blocks span.first) k
bytes-held marks blocks span k address held long h e =
    let within = (stands-from_held marks span held).within in
    let far : address - first_byte span.first ≡ k = omega arith in
    slice_get-bytes_in marks blocks address (omega arith)
    ∙ ap Some
    (byte-from marks blocks address span.first
    (start-held marks span (frame_of address) held (omega arith) (omega arith))
    ∙ ap (λ (n : ℕ). get_or (block_at blocks span.first) n 0) far)
    ∙ sym (slice_get-get_or (block_at blocks span.first) k 0 (omega arith))

-- a block that changes leaves all bytes outside its span
byte-apart : (old new : List Mark) (blocks : List (List ℕ)) (first : ℕ) (block : List ℕ)
    (address : ℕ) → start_of new (frame_of address) ≡ start_of old (frame_of address)
    → start_of old (frame_of address) ≢ first
    → byte_at new (set blocks first block) address ≡ byte_at old blocks address
byte-apart old new blocks first block address same other =
    let start : ℕ = start_of old (frame_of address) in
    byte-from new (set blocks first block) address start same
    ∙ ap (λ (xs : List ℕ). get_or xs (address - first_byte start) 0)
    (get_or-set_other blocks first start block [] other)

pub bytes-apart : (old new : List Mark) (blocks : List (List ℕ)) (first : ℕ) (block : List ℕ)
    (address : ℕ) → length new ≡ length old → address < first_byte (length old)
    → start_of new (frame_of address) ≡ start_of old (frame_of address)
    → start_of old (frame_of address) ≢ first
    → slice_get (bytes_in new (set blocks first block)) address
    ≡ slice_get (bytes_in old blocks) address
bytes-apart old new blocks first block address long h same other =
    slice_get-bytes_in new (set blocks first block) address (omega arith)
    ∙ ap Some (byte-apart old new blocks first block address same other)
    ∙ sym (slice_get-bytes_in old blocks address h)

-- a span read and written

pub held_within : (marks : List Mark) (span : Span) → Holds marks span → end_of span ≤ length marks
held_within marks span held = (stands-from_held marks span held).within

pub block_within : (marks : List Mark) (blocks : List (List ℕ)) (span : Span)
    → HasBlocks marks blocks → Holds marks span → span.first < length blocks
block_within marks blocks span has held =
    let within = held_within marks span held in
    let some = held.some in
    let entries = has.entries in
    omega arith

-- bytes of a span are bytes of its block
pub part-block : (marks : List Mark) (blocks : List (List ℕ)) (span : Span) (k count : ℕ)
    → HasBlocks marks blocks → Holds marks span → k + count ≤ first_byte span.frames
    → part (bytes_in marks blocks) (first_byte span.first + k) count
    ≡ part (block_at blocks span.first) k count
part-block marks blocks span k count has held fits =
    let within = held_within marks span held in
    let long = has.of_span span held in
    let all_long = length-bytes_in marks blocks in
    let one = length-part (bytes_in marks blocks) (first_byte span.first + k) count (omega arith) in
    let other = length-part (block_at blocks span.first) k count (omega arith) in
    same_at_each _ _ (one ∙ sym other)
    (λ j h.
    let near : j < count = omega arith in
    slice_get-part (bytes_in marks blocks) (first_byte span.first + k) count j
    (first_byte span.first + k + j) near refl
    ∙ bytes-held marks blocks span (k + j) (first_byte span.first + k + j) held long (omega arith)
    (omega arith)
    ∙ sym (slice_get-part (block_at blocks span.first) k count j (k + j) near refl))

-- where the address stands to a span
pub where_in : (span : Span) (address : ℕ)
    → IsOutside span (frame_of address)
    ⊎ ((k : ℕ) × (first_byte span.first + k ≡ address) × (k < first_byte span.frames))
where_in span address =
    elim (cases_lt address (first_byte span.first)) [
      | inl l ↦ inl (inl (omega arith))
      | inr l ↦ elim (cases_lt address (first_byte (end_of span))) [
        | inl h ↦ inr (address - first_byte span.first, omega arith, omega arith)
        | inr h ↦ inl (inr (omega arith))
      ]
    ]

-- a piece written into a span leaves all bytes outside it
pub writes-apart : (span : Span) (at : ℕ) (piece old new : List ℕ) → first_byte span.first ≤ at
    → at + length piece ≤ first_byte (end_of span) → Writes old new at piece → (address : ℕ)
    → IsOutside span (frame_of address)
    → slice_get new address ≡ slice_get old address
writes-apart span at piece old new begins ends w address (inl l) = w.below address (omega arith)
writes-apart span at piece old new begins ends w address (inr l) = w.above address (omega arith)

-- a piece written into a block is written into memory
pub written-block : (marks : List Mark) (blocks : List (List ℕ)) (span : Span) (k : ℕ)
    (piece : List ℕ) → HasBlocks marks blocks → Holds marks span
    → k + length piece ≤ first_byte span.frames
    → bytes_in marks (set blocks span.first (written (block_at blocks span.first) k piece))
    ≡ written (bytes_in marks blocks) (first_byte span.first + k) piece
written-block marks blocks span k piece has held fits =
    let within = held_within marks span held in
    let inside = block_within marks blocks span has held in
    let long = has.of_span span held in
    let block : List ℕ = block_at blocks span.first in
    let after : List ℕ = written block k piece in
    let now : List (List ℕ) = set blocks span.first after in
    let all_long = length-bytes_in marks blocks in
    let now_long = length-bytes_in marks now in
    let at : ℕ = first_byte span.first + k in
    let all = writes-written (bytes_in marks blocks) at piece (omega arith) in
    let one = writes-written block k piece (omega arith) in
    let same : block_at now span.first ≡ after = get_or-set_same blocks span.first after [] inside in
    let block_long : length (block_at now span.first) ≡ first_byte span.frames =
    ap (λ (xs : List ℕ). length xs) same ∙ one.long ∙ long in
    same_at_each _ _ (now_long ∙ sym all_long ∙ sym all.long)
    (λ address h. elim (where_in span address) [
      | inl out ↦ bytes-apart marks marks blocks span.first after address refl (omega arith) refl
          (start-outside marks span (frame_of address) held out)
          ∙ sym (writes-apart span at piece (bytes_in marks blocks) _ (omega arith) (omega arith)
          all address out)
      | inr found ↦ bytes-held marks now span found.0 address held block_long found.2 found.1
          ∙ ap (λ (xs : List ℕ). slice_get xs found.0) same
          ∙ within_block span k piece block after (bytes_in marks blocks) _ one all found.0 address
          found.1
          (bytes-held marks blocks span found.0 address held long found.2 found.1)
    ])
  where
    within_block : (span : Span) (k : ℕ) (piece block after old new : List ℕ)
        → Writes block after k piece → Writes old new (first_byte span.first + k) piece
        → (j address : ℕ) → first_byte span.first + j ≡ address
        → slice_get old address ≡ slice_get block j
        → slice_get after j ≡ slice_get new address
    within_block span k piece block after old new one all j address e same =
        elim (cases_lt j k) [
          | inl l ↦ one.below j l ∙ sym same ∙ sym (all.below address (omega arith))
          | inr l ↦ elim (cases_lt j (k + length piece)) [
            | inl h ↦ one.inside (j - k) j (omega arith) (omega arith)
                ∙ sym (all.inside (j - k) address (omega arith) (omega arith))
            | inr h ↦ one.above j h ∙ sym same ∙ sym (all.above address (omega arith))
          ]
        ]

-- the block of a frame, by another default
pub block-is : (blocks : List (List ℕ)) (frame : ℕ) (block : List ℕ) → frame < length blocks
    → block ≡ get_or blocks frame block → block ≡ block_at blocks frame
block-is blocks frame block inside e =
    let one = slice_get-get_or blocks frame block inside in
    let other = slice_get-get_or blocks frame [] inside in
    cc

-- the block of another frame
pub block-other : (blocks : List (List ℕ)) (first frame : ℕ) (block : List ℕ) → frame ≢ first
    → block_at (set blocks first block) frame ≡ block_at blocks frame
block-other blocks first frame block other = get_or-set_other blocks first frame block [] other

empty-from_length : (block : List ℕ) → length block ≡ 0 → block ≡ []
empty-from_length [] e = refl
empty-from_length (x ∷ block) e = absurd (omega arith)

-- a block may be replaced by one as long
pub blocks-set : (marks : List Mark) (blocks : List (List ℕ)) (first : ℕ) (block : List ℕ)
    → HasBlocks marks blocks → first < length blocks → length block ≡ length (block_at blocks first)
    → HasBlocks marks (set blocks first block)
blocks-set marks blocks first block has inside long =
    let same : block_at (set blocks first block) first ≡ block =
    get_or-set_same blocks first block [] inside in
    record {
      entries = length-set blocks first block ∙ has.entries;
      of_span = λ span held. elim (cases_eq span.first first) [
        | inl e ↦ rw e (ap (λ (xs : List ℕ). length xs) same ∙ long
            ∙ ap (λ (n : ℕ). length (block_at blocks n)) (sym e) ∙ has.of_span span held)
        | inr other ↦ ap (λ (xs : List ℕ). length xs)
            (block-other blocks first span.first block other)
            ∙ has.of_span span held
      ];
      of_free = λ frame free. still frame (has.of_free frame free);
      of_next = λ frame next. still frame (has.of_next frame next);
    }
  where
    still : (frame : ℕ) → block_at blocks frame ≡ [] → block_at (set blocks first block) frame ≡ []
    still frame none = elim (cases_eq frame first) [
      | inl e ↦ empty-from_length (block_at (set blocks first block) frame)
          (ap (λ (n : ℕ). length (block_at (set blocks first block) n)) e
          ∙ ap (λ (xs : List ℕ). length xs) (get_or-set_same blocks first block [] inside)
          ∙ long ∙ ap (λ (n : ℕ). length (block_at blocks n)) (sym e)
          ∙ ap (λ (xs : List ℕ). length xs) none)
      | inr other ↦ block-other blocks first frame block other ∙ none
    ]

-- the span that a look-up found

pub part-found : (marks : List Mark) (blocks : List (List ℕ)) (at count first frames : ℕ)
    → HasBlocks marks blocks → IsSpanAt marks (frame_of at) first frames
    → at + count ≤ first_byte (first + frames)
    → part (bytes_in marks blocks) at count
    ≡ part (block_at blocks first) (at - first_byte first) count
part-found marks blocks at count first frames has found fits =
    let begun = found.inside.begun in
    let begins = found.begins in
    let long = found.long in
    let k : ℕ = at - first_byte first in
    let at_is : first_byte found.span.first + k ≡ at = omega arith in
    ap (λ (n : ℕ). part (bytes_in marks blocks) n count) (sym at_is)
    ∙ part-block marks blocks found.span k count has found.held (omega arith)
    ∙ ap (λ (n : ℕ). part (block_at blocks n) k count) begins

pub long-found : (marks : List Mark) (blocks : List (List ℕ)) (frame first frames : ℕ)
    → HasBlocks marks blocks → IsSpanAt marks frame first frames
    → length (block_at blocks first) ≡ first_byte frames
long-found marks blocks frame first frames has found =
    ap (λ (n : ℕ). length (block_at blocks n)) (sym found.begins)
    ∙ has.of_span found.span found.held
    ∙ ap (λ (n : ℕ). first_byte n) found.long

pub within-found : (marks : List Mark) (blocks : List (List ℕ)) (frame first frames : ℕ)
    → HasBlocks marks blocks → IsSpanAt marks frame first frames → first < length blocks
within-found marks blocks frame first frames has found =
    let within = block_within marks blocks found.span has found.held in
    let begins = found.begins in
    omega arith

-- what a piece written into its block leaves
pub record WritesSpan (marks : List Mark) (blocks after : List (List ℕ)) (at : ℕ) (piece : List ℕ)
    : Type 0 where
  pub has : HasBlocks marks after
  pub bytes : bytes_in marks after ≡ written (bytes_in marks blocks) at piece

pub written-found : (marks : List Mark) (blocks : List (List ℕ)) (at first frames : ℕ)
    (piece : List ℕ) → HasBlocks marks blocks → IsSpanAt marks (frame_of at) first frames
    → at + length piece ≤ first_byte (first + frames)
    → WritesSpan marks blocks
    (set blocks first (written (block_at blocks first) (at - first_byte first) piece)) at piece
written-found marks blocks at first frames piece has found fits =
    let begun = found.inside.begun in
    let begins = found.begins in
    let long = found.long in
    let k : ℕ = at - first_byte first in
    let at_is : first_byte found.span.first + k ≡ at = omega arith in
    let block_long = long-found marks blocks (frame_of at) first frames has found in
    let one = writes-written (block_at blocks first) k piece (omega arith) in
    record {
      has = blocks-set marks blocks first (written (block_at blocks first) k piece) has
          (within-found marks blocks (frame_of at) first frames has found) one.long;
      bytes =
          ap (λ (n : ℕ). bytes_in marks (set blocks n (written (block_at blocks n) k piece)))
          (sym begins)
          ∙ written-block marks blocks found.span k piece has found.held (omega arith)
          ∙ ap (λ (n : ℕ). written (bytes_in marks blocks) n piece) at_is;
    }

-- a next piece of some bytes, right after those that were written
pub written-more : (marks : List Mark) (start blocks : List (List ℕ))
    (at done count first frames : ℕ) (bytes : List ℕ)
    → WritesSpan marks start blocks at (take done bytes)
    → IsSpanAt marks (frame_of (at + done)) first frames → done + count ≤ length bytes
    → at + done + count ≤ first_byte (first + frames)
    → WritesSpan marks start
    (set blocks first
    (written (block_at blocks first) (at + done - first_byte first) (take count (drop done bytes))))
    at (take (done + count) bytes)
written-more marks start blocks at done count first frames bytes so_far found few fits =
    let piece : List ℕ = take count (drop done bytes) in
    let piece_long : length piece ≡ count =
    omega (arith, length-take count (drop done bytes), length-drop done bytes) in
    let w = written-found marks blocks (at + done) first frames piece so_far.has found
    (omega arith) in
    let within = held_within marks found.span found.held in
    let unended = found.inside.unended in
    let long = length-bytes_in marks start in
    record {
      has = w.has;
      bytes = w.bytes
          ∙ ap (λ (xs : List ℕ). written xs (at + done) piece) so_far.bytes
          ∙ written-after (bytes_in marks start) at done (take done bytes) piece
          (omega (arith, length-take done bytes)) (omega arith)
          ∙ ap (λ (xs : List ℕ). written (bytes_in marks start) at xs)
          (sym (take-add done count bytes));
    }
