-- Spans of frames, and what it means that a pool holds one.
use Rattle.std.specs.Prelude.{◌≡◌, ◌≢◌, ◌⊎◌, ℕ, ◌+◌, ◌-◌, ◌<◌, ◌≤◌, List, ◌∷◌, ◌++◌, take, drop}
use Rattle.std.specs.Prelude.{replicate, slice_get, Some}
use Rattle.region_pool.specs.declared.mark.Mark.{Mark}
use Rattle.region_pool.specs.declared.mark.Mark.TheVariants as mark
use Rattle.region_pool.specs.declared.ticket.Purpose.{Purpose}
use Rattle.region_pool.specs.declared.ticket.Purpose.TheVariants as purpose

-- frames in a row that were taken together, and whom they serve
pub record Span : Type 0 where
  pub first : ℕ
  pub frames : ℕ
  pub purpose : Purpose

-- the frame just after a span
abbrev pub end_of : Span → ℕ
end_of span = span.first + span.frames

-- the mark of a span's first frame
abbrev pub first_mark : Purpose → Mark
first_mark purpose.Host = mark.Host
first_mark purpose.Launch = mark.Launch

-- the marks of a span's frames
abbrev pub marks_of : Span → List Mark
marks_of span = first_mark span.purpose ∷ replicate (span.frames - 1) mark.Next

-- the marks of so many frames, from a frame on
abbrev pub marks_at : List Mark → ℕ → ℕ → List Mark
marks_at marks first frames = take frames (drop first marks)

-- the pool holds the span: its marks stand at its frames, and it ends where they end
pub record Holds (marks : List Mark) (span : Span) : Type 0 where
  pub some : 1 ≤ span.frames
  pub stands : marks_at marks span.first span.frames ≡ marks_of span
  pub ends : slice_get marks (end_of span) ≢ Some mark.Next

-- no frame lies in both spans: one ends before the other begins
abbrev pub IsDisjoint : Span → Span → Type 0
IsDisjoint one other = (end_of one ≤ other.first) ⊎ (end_of other ≤ one.first)

-- the marks with others in place of so many from a frame on, and all else as before
abbrev pub with_marks : List Mark → ℕ → ℕ → List Mark → List Mark
with_marks marks first frames others = take first marks ++ others ++ drop (first + frames) marks

-- the marks once the span is taken
abbrev pub with_span : List Mark → Span → List Mark
with_span marks span = with_marks marks span.first span.frames (marks_of span)

-- the marks once the span is given back
abbrev pub without_span : List Mark → Span → List Mark
without_span marks span = with_marks marks span.first span.frames (replicate span.frames mark.Free)

-- the frame is one of the span's
pub record HasFrame (span : Span) (frame : ℕ) : Type 0 where
  pub begun : span.first ≤ frame
  pub unended : frame < end_of span

-- the frame lies in a span that the pool holds: it has so many frames from `first` on
pub record IsSpanAt (marks : List Mark) (frame first frames : ℕ) : Type 0 where
  pub span : Span
  pub held : Holds marks span
  pub inside : HasFrame span frame
  pub begins : span.first ≡ first
  pub long : span.frames ≡ frames

-- the frame lies in one span that the pool holds, and in no other
pub record LiesInOneSpan (marks : List Mark) (frame : ℕ) : Type 0 where
  pub span : Span
  pub held : Holds marks span
  pub inside : HasFrame span frame
  pub only : (other : Span) → Holds marks other → HasFrame other frame → other ≡ span
