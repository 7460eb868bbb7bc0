-- The area of a session, whose first frames are its region.
use Rattle.std.specs.Prelude.{◌≡◌, ℕ, ◌%◌, List, replicate, true, false}
use Rattle.region_pool.specs.declared.mark.Mark.{Mark}
use Rattle.region_pool.specs.declared.ticket.Purpose.TheVariants as purpose
use Rattle.region_pool.specs.Spans.{Span, Holds}
use Rattle.machine_memory.specs.Writes.{written}
use Rattle.machine_memory.specs.Contents.{Contents, first_byte}
use Rattle.machine_memory.specs.declared.sizes.TheConstants.{REGION_FRAMES}

-- how many frames the region has
unfoldable pub region_frames : ℕ
region_frames = REGION_FRAMES

-- the span is an area: a launch span of 18 frames at a multiple of 16
pub record IsArea (marks : List Mark) (span : Span) : Type 0 where
  pub held : Holds marks span
  pub purpose : span.purpose ≡ purpose.Launch
  pub frames : span.frames ≡ 18
  pub aligned : span.first % 16 ≡ 0

-- the first frames of an area
abbrev pub region_of : Span → Span
region_of area = record area { frames = region_frames }

-- memory with the region's frames excluded
abbrev pub guarded : Contents → Span → Contents
guarded memory area =
    record memory { excluded = written memory.excluded area.first (replicate region_frames true) }

-- memory with the region's frames no longer excluded
abbrev pub unguarded : Contents → Span → Contents
unguarded memory area =
    record memory { excluded = written memory.excluded area.first (replicate region_frames false) }

-- memory with the region's bytes zero
abbrev pub erased : Contents → Span → Contents
erased memory area = record memory {
  bytes = written memory.bytes (first_byte area.first) (replicate (first_byte region_frames) 0);
}
