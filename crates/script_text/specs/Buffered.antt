-- How the buffer of a reader is divided, and what the reader's own steps do.
use Rattle.std.specs.Prelude.{◌≡◌, ◌≢◌, ◌⊎◌, ℕ, ◌+◌, ◌<◌, ◌≤◌, true, false, List, [], ◌∷◌, ◌++◌, length, slice_range, slice_index, Option}
use Rattle.std.specs.Io.KnownBytes.{Consumes, IsAtEnd}
use Rattle.script_text.specs.Lines.{IsOneLine}
use Rattle.script_text.specs.declared.line.TheConstants.{LONGEST_LINE}
use Rattle.script_text.specs.Reader.{Held, HasLongPrefix}
use Rattle.script_text.specs.declared.reader.TheConstants.{READ_SIZE}
use Rattle.script_text.specs.declared.reader.Prefix.{Prefix}
use Rattle.script_text.specs.declared.reader.Prefix.TheVariants as prefix
use Rattle.script_text.specs.declared.reader.LineEnd.{LineEnd}
use Rattle.script_text.specs.declared.reader.LineEnd.TheVariants as line

-- The line given last stands before what is held. What is held has no LF up to `seen`, and after it
-- at most one read.
pub record IsBuffered (buffer : List ℕ) (line_start line_end start seen end : ℕ) : Type 0 where
  pub size : length buffer ≡ LONGEST_LINE + 1 + READ_SIZE
  pub line : line_start ≤ line_end
  pub given : line_end ≤ start
  pub searched : start ≤ seen
  pub unsearched : seen ≤ end
  pub within : end ≤ length buffer
  pub prefix : seen ≤ start + (LONGEST_LINE + 1)
  pub after : end ≤ seen + READ_SIZE
  pub one : IsOneLine (slice_range buffer start seen)

-- the first LF from one index up to another
pub record IsLineEndAt (buffer : List ℕ) (from to position : ℕ) : Type 0 where
  pub low : from ≤ position
  pub high : position < to
  pub end : slice_index buffer position ≡ 10
  pub one : IsOneLine (slice_range buffer from position)

-- what each answer says of what was held, and what is held then
abbrev pub TakesPrefix : Prefix → Held → Held → Type 0
TakesPrefix prefix.Line old new =
    (old.bytes ≡ new.line ++ 10 ∷ new.bytes) × (new.ended ≡ old.ended) × IsOneLine new.line
    × (length new.line ≤ LONGEST_LINE) × (length new.bytes ≤ READ_SIZE)
TakesPrefix prefix.Long old new =
    (new ≡ old) × HasLongPrefix old.bytes × (length old.bytes ≤ LONGEST_LINE + 1 + READ_SIZE)
TakesPrefix prefix.Open old new =
    (new ≡ old) × IsOneLine old.bytes × (length old.bytes ≤ LONGEST_LINE)

-- all that was held is the last line, or nothing was held
abbrev pub TakesRest : LineEnd → Held → Held → Type 0
TakesRest line.Line old new =
    (old.bytes ≢ []) × (new ≡ record { bytes = []; ended = old.ended; line = old.bytes })
TakesRest line.End old new = (old.bytes ≡ []) × (new ≡ old)
TakesRest line.Long old new = ⊥
TakesRest line.Failed old new = ⊥

-- a read gave a piece that has bytes, or the end
pub record Fills (old new : Held) (before now : Option (List ℕ)) : Type 0 where
  pub piece : List ℕ
  pub consumed : Consumes before now piece
  pub bytes : new.bytes ≡ old.bytes ++ piece
  pub few : length piece ≤ READ_SIZE
  pub line : new.line ≡ []
  pub cases : ((new.ended ≡ false) × (piece ≢ []))
      ⊎ ((new.ended ≡ true) × (piece ≡ []) × IsAtEnd now)
