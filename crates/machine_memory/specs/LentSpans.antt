-- What memory ends as, of which a span is lent.
use Rattle.std.specs.Prelude.{ℕ, List}
use Rattle.std.specs.Borrow.{Lends, MutBor, Fml, u8, Array}
use Rattle.region_pool.specs.Spans.{Span}
use Rattle.machine_memory.specs.contracts.memory.Memory.{the_row}
use Rattle.machine_memory.specs.Writes.{lent_back}
use Rattle.machine_memory.specs.Contents.{Contents, first_byte}
use Rattle.machine_memory.specs.Areas.{region_of}

-- memory once the bytes of a span were lent, and came back as these
abbrev pub after_loan : Contents → Span → List ℕ → Contents
after_loan memory span bytes = record memory {
  bytes = lent_back memory.bytes (first_byte span.first) (first_byte span.frames) bytes;
}

-- memory ends with what was written through the loan where the span is
abbrev pub LendsSpan : MutBor Contents → Span → MutBor (List ℕ) → Fml
LendsSpan memory span loan = Lends the_row (Array u8 0) memory loan (after_loan memory.now span)

-- memory ends with what was written through the loan where the region is
abbrev pub LendsRegion : MutBor Contents → Span → MutBor (List ℕ) → Fml
LendsRegion memory area loan = LendsSpan memory (region_of area) loan
