-- The lines of an assembler text.
use Rattle.std.specs.Prelude.{ℕ, ◌-◌, ◌==◌, Bool, List, length, take, slice_index, if◌then◌else◌}
use Rattle.std.specs.List.{slice_split, before_first}

-- LF
abbrev pub is_line_end : ℕ → Bool
is_line_end c = c == 10

-- the lines of a text, each without its LF; no bytes after the last LF are a line with nothing on
-- it
abbrev pub lines : List ℕ → List (List ℕ)
lines text = slice_split is_line_end text

-- a line without the CR at its end
abbrev pub content : List ℕ → List ℕ
content line =
    if slice_index line (length line - 1) == 13 then take (length line - 1) line else line

-- what stands before the first semicolon: the rest is a comment
abbrev pub without_comment : List ℕ → List ℕ
without_comment line = before_first (λ c. c == 59) line
