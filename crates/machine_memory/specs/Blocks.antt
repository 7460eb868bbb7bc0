-- The blocks of bytes that memory is made of: one for each span, kept at its first frame.
use Rattle.std.specs.Prelude.{◌≡◌, ℕ, zero, suc, ◌-◌, List, [], length, map, Bool, true, false}
use Rattle.std.specs.Prelude.{slice_get, slice_index, slice_index_or, Some, if◌then◌else◌}
use Rattle.std.specs.List.{range_with_len}
use Rattle.region_pool.specs.declared.mark.Mark.{Mark}
use Rattle.region_pool.specs.declared.mark.Mark.TheVariants.{Free, Next}
use Rattle.region_pool.specs.Spans.{Span, Holds}
use Rattle.machine_memory.specs.Contents.{Contents, IsMemory, first_byte, frame_of}

-- the mark of a further frame of a span
abbrev pub is_next : Mark → Bool
is_next Next = true
is_next _ = false

-- the frame at which the span of a frame begins: the nearest, from it downward, that is no next
-- frame; a free frame begins with itself
abbrev pub start_of : List Mark → ℕ → ℕ
start_of marks zero = zero
start_of marks (suc frame) =
    if is_next (slice_index_or marks (suc frame) Free) then start_of marks frame else suc frame

-- the block of a frame, which is empty where there is none
abbrev pub block_at : List (List ℕ) → ℕ → List ℕ
block_at blocks frame = slice_index_or blocks frame []

-- the byte at an address, out of the block where its span begins; 0 where there is none
abbrev pub byte_at : List Mark → List (List ℕ) → ℕ → ℕ
byte_at marks blocks address =
    let first = start_of marks (frame_of address) in
    slice_index (block_at blocks first) (address - first_byte first)

-- all bytes of memory
unfoldable pub bytes_in : List Mark → List (List ℕ) → List ℕ
bytes_in marks blocks =
    map (byte_at marks blocks) (range_with_len 0 (first_byte (length marks)))

-- there is a block for each frame: that of a span's first frame has the span's bytes, those of the
-- other frames have none
pub record HasBlocks (marks : List Mark) (blocks : List (List ℕ)) : Type 0 where
  pub entries : length blocks ≡ length marks
  pub of_span : (span : Span) → Holds marks span
      → length (block_at blocks span.first) ≡ first_byte span.frames
  pub of_free : (frame : ℕ) → slice_get marks frame ≡ Some Free → block_at blocks frame ≡ []
  pub of_next : (frame : ℕ) → slice_get marks frame ≡ Some Next → block_at blocks frame ≡ []

-- what memory holds, of its marks, its exclusion bits and its blocks
abbrev pub contents_in : List Mark → List Bool → List (List ℕ) → Contents
contents_in marks excluded blocks = record {
  bytes = bytes_in marks blocks;
  marks = marks;
  excluded = excluded;
}

-- what is true of every memory and of its blocks
pub record IsInBlocks (marks : List Mark) (excluded : List Bool) (blocks : List (List ℕ)) : Type 0
  where
    pub memory : IsMemory (contents_in marks excluded blocks)
    pub has : HasBlocks marks blocks
