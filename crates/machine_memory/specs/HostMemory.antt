-- Memory as its users see it: its bytes, and the spans of frames that the host took. No mark and no
-- exclusion bit is among it.
use Rattle.std.specs.Prelude.{ℕ, ◌+◌, ◌%◌, ◌==◌, ◌&&◌, not, nat_le, nat_lt, Bool, List, [], ◌∷◌}
use Rattle.std.specs.Prelude.{◌++◌, filter, find, replicate, Option}
use Rattle.std.specs.List.{list_all, list_any, range_with_len}
use Rattle.region_pool.specs.Marks.{is_free}
use Rattle.machine_memory.specs.Contents.{Contents, frame_count, first_byte, frame_of, zero_bytes}
use Rattle.machine_memory.specs.Writes.{written}

-- frames in a row that the host took together
pub record HostSpan : Type 0 where
  pub first : ℕ
  pub frames : ℕ

-- the bytes of memory, and the spans in the order of taking
pub record HostMemory : Type 0 where
  pub bytes : List ℕ
  pub spans : List HostSpan

-- the frame lies in the span
abbrev pub has_frame : ℕ → HostSpan → Bool
has_frame frame span = nat_le span.first frame && nat_lt frame (span.first + span.frames)

-- the frame lies in a span
abbrev pub is_taken : List HostSpan → ℕ → Bool
is_taken spans frame = list_any (has_frame frame) spans

-- a span of so many frames fits there: the frame is a multiple of the alignment, and so many from
-- it on lie in memory and in no span
abbrev pub fits : List HostSpan → ℕ → ℕ → ℕ → Bool
fits spans frames align first =
    (first % align == 0)
    && nat_le (first + frames) frame_count
    && list_all (λ frame. not (is_taken spans frame)) (range_with_len first frames)

-- where a span of so many frames goes: to the lowest frame that it fits at
unfoldable pub place : List HostSpan → ℕ → ℕ → Option ℕ
place spans frames align = find (fits spans frames align) (range_with_len 0 frame_count)

-- the span starts at this address
abbrev pub starts_at : ℕ → HostSpan → Bool
starts_at at span = first_byte span.first == at

-- so many bytes from an address on lie in the span; where there are none, the address lies in it or
-- at its end
abbrev pub has_bytes : ℕ → ℕ → HostSpan → Bool
has_bytes at count span =
    nat_le (first_byte span.first) at && nat_le (at + count) (first_byte (span.first + span.frames))

-- they lie in one span
abbrev pub are_taken : List HostSpan → ℕ → ℕ → Bool
are_taken spans at count = list_any (has_bytes at count) spans

-- each of so many bytes from an address on lies in a span, so a device may write it
abbrev pub are_open : List HostSpan → ℕ → ℕ → Bool
are_open spans at count =
    list_all (λ byte. is_taken spans (frame_of byte)) (range_with_len at count)

-- memory once a span of so many frames was taken; its bytes are zero already
abbrev pub with_span : ℕ → ℕ → HostMemory → HostMemory
with_span first frames memory =
    record memory { spans = memory.spans ++ record { first = first; frames = frames } ∷ [] }

-- memory once the span was given back, and its bytes wiped
abbrev pub without_span : HostSpan → HostMemory → HostMemory
without_span span memory = record {
  bytes = written memory.bytes (first_byte span.first) (replicate (first_byte span.frames) 0);
  spans = filter (λ other. not (starts_at (first_byte span.first) other)) memory.spans;
}

-- memory once bytes were written from an address on
abbrev pub with_bytes : ℕ → List ℕ → HostMemory → HostMemory
with_bytes at bytes memory = record memory { bytes = written memory.bytes at bytes }

-- memory after power-on, in which nothing is taken
abbrev pub blank_memory : HostMemory
blank_memory = record { bytes = zero_bytes; spans = [] }

-- no frame of memory is taken
abbrev pub is_untaken : Contents → Bool
is_untaken memory = list_all is_free memory.marks
