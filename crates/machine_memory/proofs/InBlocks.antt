-- Memory in blocks: what is true of it stays true where it changes, and what it holds is what the
-- definitions say.
use Rattle.std.proofs.Common.{◌≡◌, ◌+◌, ◌≤◌, ℕ, List, [], length, set, replicate, map, sym}
use Rattle.std.proofs.Common.{ap, ◌∙◌, arith, Bool, true, false}
use Rattle.std.specs.List.{refill}
use Rattle.std.proofs.lemmas.List.{take_all}
use Rattle.region_pool.specs.declared.mark.Mark.{Mark}
use Rattle.region_pool.specs.declared.mark.Mark.TheVariants.{Free}
use Rattle.region_pool.specs.Marks.{is_free}
use Rattle.region_pool.specs.Places.{IsPlace}
use Rattle.region_pool.specs.Spans.{Span, Holds, with_span, without_span}
use Rattle.machine_memory.specs.Writes.{part, written, lent_back}
use Rattle.machine_memory.specs.Contents.{Contents, IsMemory, first_byte, frame_count, blank}
use Rattle.machine_memory.specs.Contents.{after_power_cycle}
use Rattle.machine_memory.specs.Blocks.{block_at, bytes_in, HasBlocks, contents_in, IsInBlocks}
use Rattle.machine_memory.specs.Spans.{with_bytes, after_take, after_give}
use Rattle.machine_memory.specs.LentParts.{with_others}
use Rattle.machine_memory.specs.LentSpans.{after_loan}
use Rattle.machine_memory.proofs.Pieces.{writes-written}
use Rattle.machine_memory.proofs.Pieces.{refill-long, length-refill, length-part, length-lent_back}
use Rattle.machine_memory.proofs.MemoryLemmas.{memory-after_take, memory-after_give}
use Rattle.machine_memory.proofs.MemoryLemmas.{memory-after_loan, memory-blank}
use Rattle.machine_memory.proofs.MemoryLemmas.{memory-after_power_cycle}
use Rattle.machine_memory.proofs.BlockLemmas.{WritesSpan, written-block, part-block, blocks-set}
use Rattle.machine_memory.proofs.BlockLemmas.{block_within}
use Rattle.machine_memory.proofs.BlockChanges.{zeros_of, wiped, blocks-take, bytes-take}
use Rattle.machine_memory.proofs.BlockChanges.{blocks-give, bytes-give, blocks-blank, bytes-blank}
use Rattle.machine_memory.proofs.BlockChanges.{blocks-wiped, bytes-wiped}

-- what it holds with other bytes
abbrev with_all : List Mark → List Bool → List ℕ → Contents
with_all marks excluded bytes = record { bytes = bytes; marks = marks; excluded = excluded }

-- bytes written

pub in-written : (marks : List Mark) (excluded : List Bool) (blocks after : List (List ℕ)) (at : ℕ)
    (piece : List ℕ) → WritesSpan marks blocks after at piece
    → IsMemory (with_bytes (contents_in marks excluded blocks) at piece)
    → IsInBlocks marks excluded after
in-written marks excluded blocks after at piece w m =
    record { memory = rw w.bytes m; has = w.has }

-- a span taken

pub in-take : (marks : List Mark) (excluded : List Bool) (blocks : List (List ℕ)) (span : Span)
    (align : ℕ) → IsInBlocks marks excluded blocks → 1 ≤ span.frames
    → IsPlace marks span.frames align span.first
    → IsInBlocks (with_span marks span)
    (written excluded span.first (replicate span.frames false))
    (set blocks span.first (zeros_of span))
in-take marks excluded blocks span align m some place =
    record {
      memory = rw (bytes-take marks blocks span align some place m.memory.pool m.has)
          (memory-after_take (contents_in marks excluded blocks) span align m.memory some place);
      has = blocks-take marks blocks span align some place m.memory.pool m.has;
    }

pub contents-take : (marks : List Mark) (excluded : List Bool) (blocks : List (List ℕ))
    (span : Span) (align : ℕ) → IsInBlocks marks excluded blocks → 1 ≤ span.frames
    → IsPlace marks span.frames align span.first
    → contents_in (with_span marks span)
    (written excluded span.first (replicate span.frames false))
    (set blocks span.first (zeros_of span))
    ≡ after_take (contents_in marks excluded blocks) span
contents-take marks excluded blocks span align m some place =
    ap (λ (bytes : List ℕ). with_all (with_span marks span)
    (written excluded span.first (replicate span.frames false)) bytes)
    (bytes-take marks blocks span align some place m.memory.pool m.has)

-- a span given back

pub in-give : (marks : List Mark) (excluded : List Bool) (blocks : List (List ℕ)) (span : Span)
    → IsInBlocks marks excluded blocks → Holds marks span
    → IsInBlocks (without_span marks span)
    (written excluded span.first (replicate span.frames true)) (set blocks span.first [])
in-give marks excluded blocks span m held =
    record {
      memory = rw (bytes-give marks blocks span held m.has)
          (memory-after_give (contents_in marks excluded blocks) span m.memory held);
      has = blocks-give marks blocks span held m.has;
    }

pub contents-give : (marks : List Mark) (excluded : List Bool) (blocks : List (List ℕ))
    (span : Span) → IsInBlocks marks excluded blocks → Holds marks span
    → contents_in (without_span marks span)
    (written excluded span.first (replicate span.frames true)) (set blocks span.first [])
    ≡ after_give (contents_in marks excluded blocks) span
contents-give marks excluded blocks span m held =
    ap (λ (bytes : List ℕ). with_all (without_span marks span)
    (written excluded span.first (replicate span.frames true)) bytes)
    (bytes-give marks blocks span held m.has)

-- the first bytes of a span lent

-- the block once they came back
abbrev pub block_back : List ℕ → ℕ → List ℕ → List ℕ
block_back block count piece = with_others block (lent_back block 0 count piece)

block_back-is : (block : List ℕ) (count : ℕ) (piece : List ℕ) → count ≤ length block
    → block_back block count piece ≡ lent_back block 0 count piece
block_back-is block count piece few =
    refill-long (length block) block (lent_back block 0 count piece)
    (length-lent_back block 0 count piece (omega arith))

pub bytes-loan : (marks : List Mark) (blocks : List (List ℕ)) (span : Span) (frames : ℕ)
    (piece : List ℕ) → HasBlocks marks blocks → Holds marks span → frames ≤ span.frames
    → bytes_in marks
    (set blocks span.first (block_back (block_at blocks span.first) (first_byte frames) piece))
    ≡ lent_back (bytes_in marks blocks) (first_byte span.first) (first_byte frames) piece
bytes-loan marks blocks span frames piece has held few =
    let count : ℕ = first_byte frames in
    let block : List ℕ = block_at blocks span.first in
    let block_long = has.of_span span held in
    let lent = part block 0 count in
    let lent_long = length-part block 0 count (omega arith) in
    let long = length-refill count lent piece lent_long in
    let here : first_byte span.first + 0 ≡ first_byte span.first = omega arith in
    ap (λ (xs : List ℕ). bytes_in marks (set blocks span.first xs))
    (block_back-is block count piece (omega arith))
    ∙ written-block marks blocks span 0 (refill count lent piece) has held (omega arith)
    ∙ ap (λ (n : ℕ). written (bytes_in marks blocks) n (refill count lent piece)) here
    ∙ ap (λ (xs : List ℕ). written (bytes_in marks blocks) (first_byte span.first)
    (refill count xs piece))
    (sym (part-block marks blocks span 0 count has held (omega arith))
    ∙ ap (λ (n : ℕ). part (bytes_in marks blocks) n count) here)

pub in-loan : (marks : List Mark) (excluded : List Bool) (blocks : List (List ℕ)) (span : Span)
    (frames : ℕ) (piece : List ℕ) → IsInBlocks marks excluded blocks → Holds marks span
    → frames ≤ span.frames
    → IsInBlocks marks excluded
    (set blocks span.first (block_back (block_at blocks span.first) (first_byte frames) piece))
in-loan marks excluded blocks span frames piece m held few =
    let block : List ℕ = block_at blocks span.first in
    let block_long = m.has.of_span span held in
    let back = block_back-is block (first_byte frames) piece (omega arith) in
    record {
      memory = rw (bytes-loan marks blocks span frames piece m.has held few)
          (memory-after_loan (contents_in marks excluded blocks) span frames piece m.memory held
          few);
      has = blocks-set marks blocks span.first (block_back block (first_byte frames) piece) m.has
          (block_within marks blocks span m.has held)
          (ap (λ (xs : List ℕ). length xs) back
          ∙ length-lent_back block 0 (first_byte frames) piece (omega arith));
    }

pub contents-loan : (marks : List Mark) (excluded : List Bool) (blocks : List (List ℕ))
    (span : Span) (frames : ℕ) (piece : List ℕ) → IsInBlocks marks excluded blocks
    → Holds marks span → frames ≤ span.frames
    → contents_in marks excluded
    (set blocks span.first (block_back (block_at blocks span.first) (first_byte frames) piece))
    ≡ after_loan (contents_in marks excluded blocks) (record span { frames = frames }) piece
contents-loan marks excluded blocks span frames piece m held few =
    ap (λ (bytes : List ℕ). with_all marks excluded bytes)
    (bytes-loan marks blocks span frames piece m.has held few)

-- what is lent
pub bytes-of_block : (marks : List Mark) (blocks : List (List ℕ)) (span : Span) (frames : ℕ)
    → HasBlocks marks blocks → Holds marks span → frames ≤ span.frames
    → part (block_at blocks span.first) 0 (first_byte frames)
    ≡ part (bytes_in marks blocks) (first_byte span.first) (first_byte frames)
bytes-of_block marks blocks span frames has held few =
    let here : first_byte span.first + 0 ≡ first_byte span.first = omega arith in
    sym (part-block marks blocks span 0 (first_byte frames) has held (omega arith))
    ∙ ap (λ (n : ℕ). part (bytes_in marks blocks) n (first_byte frames)) here

pub block-of_span : (marks : List Mark) (blocks : List (List ℕ)) (span : Span)
    → HasBlocks marks blocks → Holds marks span
    → block_at blocks span.first
    ≡ part (bytes_in marks blocks) (first_byte span.first) (first_byte span.frames)
block-of_span marks blocks span has held =
    let long = has.of_span span held in
    sym (take_all (first_byte span.frames) (block_at blocks span.first) (omega arith))
    ∙ bytes-of_block marks blocks span span.frames has held (omega arith)

-- the first bytes of a span written
pub front-written : (marks : List Mark) (blocks : List (List ℕ)) (span : Span) (piece : List ℕ)
    → HasBlocks marks blocks → Holds marks span → length piece ≤ first_byte span.frames
    → WritesSpan marks blocks
    (set blocks span.first (written (block_at blocks span.first) 0 piece)) (first_byte span.first)
    piece
front-written marks blocks span piece has held few =
    let block : List ℕ = block_at blocks span.first in
    let long = has.of_span span held in
    let here : first_byte span.first + 0 ≡ first_byte span.first = omega arith in
    let one = writes-written block 0 piece (omega arith) in
    record {
      has = blocks-set marks blocks span.first (written block 0 piece) has
          (block_within marks blocks span has held) one.long;
      bytes = written-block marks blocks span 0 piece has held (omega arith)
          ∙ ap (λ (n : ℕ). written (bytes_in marks blocks) n piece) here;
    }

-- memory as it is made, and after a power cycle

pub in-blank : IsInBlocks (replicate frame_count Free) (replicate frame_count true)
    (replicate frame_count [])
in-blank = record {
  memory = rw (bytes-blank frame_count) memory-blank;
  has = blocks-blank frame_count;
}

pub contents-blank : contents_in (replicate frame_count Free) (replicate frame_count true)
    (replicate frame_count [])
    ≡ blank
contents-blank =
    ap (λ (bytes : List ℕ). with_all (replicate frame_count Free) (replicate frame_count true)
    bytes) (bytes-blank frame_count)

bytes-cycle : (marks : List Mark) (excluded : List Bool) (blocks : List (List ℕ))
    → IsInBlocks marks excluded blocks
    → bytes_in marks (map wiped blocks) ≡ replicate (first_byte frame_count) 0
bytes-cycle marks excluded blocks m =
    bytes-wiped marks blocks
    ∙ ap (λ (n : ℕ). replicate {A = ℕ} (first_byte n) 0) m.memory.frames

pub in-cycle : (marks : List Mark) (excluded : List Bool) (blocks : List (List ℕ))
    → IsInBlocks marks excluded blocks
    → IsInBlocks marks (map is_free marks) (map wiped blocks)
in-cycle marks excluded blocks m = record {
  memory = rw (bytes-cycle marks excluded blocks m)
      (memory-after_power_cycle (contents_in marks excluded blocks) m.memory);
  has = blocks-wiped marks blocks m.has;
}

pub contents-cycle : (marks : List Mark) (excluded : List Bool) (blocks : List (List ℕ))
    → IsInBlocks marks excluded blocks
    → contents_in marks (map is_free marks) (map wiped blocks)
    ≡ after_power_cycle (contents_in marks excluded blocks)
contents-cycle marks excluded blocks m =
    ap (λ (bytes : List ℕ). with_all marks (map is_free marks) bytes)
    (bytes-cycle marks excluded blocks m)
