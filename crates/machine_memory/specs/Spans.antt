-- Memory by spans: what lies in one, and what taking one and giving it back does.
use Rattle.std.specs.Prelude.{ℕ, ◌+◌, ◌≤◌, List, replicate, true, false}
use Rattle.region_pool.specs.declared.mark.Mark.{Mark}
use Rattle.region_pool.specs.Spans.{Span, end_of, Holds, with_span, without_span}
use Rattle.machine_memory.specs.Writes.{part, written}
use Rattle.machine_memory.specs.Contents.{Contents, first_byte}

-- the bytes of a span
abbrev pub bytes_of : Contents → Span → List ℕ
bytes_of memory span = part memory.bytes (first_byte span.first) (first_byte span.frames)

-- so many bytes from an address on lie in the span; where there are none, the address lies in it or
-- at its end
pub record LiesIn (span : Span) (at count : ℕ) : Type 0 where
  pub begins : first_byte span.first ≤ at
  pub ends : at + count ≤ first_byte (end_of span)

-- they lie in one span that is taken
pub record LiesInSpan (marks : List Mark) (at count : ℕ) : Type 0 where
  pub span : Span
  pub held : Holds marks span
  pub inside : LiesIn span at count

-- memory with bytes written from an address on
abbrev pub with_bytes : Contents → ℕ → List ℕ → Contents
with_bytes memory at bytes = record memory { bytes = written memory.bytes at bytes }

-- memory once the span is taken: devices may write to its frames
abbrev pub after_take : Contents → Span → Contents
after_take memory span = record memory {
  marks = with_span memory.marks span;
  excluded = written memory.excluded span.first (replicate span.frames false);
}

-- memory once the span is given back: its bytes are zero, and its frames are excluded and free
abbrev pub after_give : Contents → Span → Contents
after_give memory span = record {
  bytes = written memory.bytes (first_byte span.first) (replicate (first_byte span.frames) 0);
  marks = without_span memory.marks span;
  excluded = written memory.excluded span.first (replicate span.frames true);
}
