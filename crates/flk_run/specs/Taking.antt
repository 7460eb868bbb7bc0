-- What taking spans for the host and giving them back does to memory.
use Rattle.std.specs.Prelude.{◌≡◌, ℕ, List, [], ◌∷◌}
use Rattle.region_pool.specs.declared.ticket.Purpose.TheVariants.{Host}
use Rattle.region_pool.specs.Places.{IsLowestPlace}
use Rattle.region_pool.specs.Spans.{Span, Holds, IsDisjoint}
use Rattle.machine_memory.specs.Contents.{Contents}
use Rattle.machine_memory.specs.Spans.{after_take, after_give}

-- the span has so many frames from the lowest place on, it serves the host, and the spans that were
-- held stay held
pub record Took (frames : ℕ) (old new : Contents) (span : Span) : Type 0 where
  pub lowest : IsLowestPlace old.marks frames 1 span.first
  pub long : span.frames ≡ frames
  pub purpose : span.purpose ≡ Host
  pub taken : new ≡ after_take old span
  pub held : Holds new.marks span
  pub others : (other : Span) → Holds old.marks other → Holds new.marks other
  pub apart : (other : Span) → Holds old.marks other → IsDisjoint span other

-- memory once the spans were given back, the last of them first
abbrev pub after_give_all : Contents → List Span → Contents
after_give_all memory [] = memory
after_give_all memory (span ∷ spans) = after_give (after_give_all memory spans) span
