-- How the bytes of a script are cut into lines, and a line into words.
use Rattle.std.specs.Prelude.{ℕ, zero, suc, ◌+◌, ◌-◌, ◌==◌, ◌||◌, ◌&&◌, not, nat_le, nat_lt, Bool, true, false, List, [], ◌∷◌, ◌++◌, length, take, filter, slice_index, if◌then◌else◌}
use Rattle.std.specs.List.{AllPass, slice_split}
use Rattle.script_text.specs.declared.line.TheConstants.{LONGEST_LINE, MOST_LINES}

-- LF
abbrev pub is_line_end : ℕ → Bool
is_line_end c = c == 10

-- no byte is an LF
abbrev pub IsOneLine : List ℕ → Type 0
IsOneLine bytes = AllPass (λ c. not (is_line_end c)) bytes

-- the pieces but the last
abbrev pub but_last : List (List ℕ) → List (List ℕ)
but_last [] = []
but_last (x ∷ []) = []
but_last (x ∷ y ∷ ys) = x ∷ but_last (y ∷ ys)

-- the last piece
abbrev pub last_of : List (List ℕ) → List ℕ
last_of [] = []
last_of (x ∷ []) = x
last_of (x ∷ y ∷ ys) = last_of (y ∷ ys)

-- the lines that an LF ends, without it
abbrev pub whole_lines : List ℕ → List (List ℕ)
whole_lines bytes = but_last (slice_split is_line_end bytes)

-- what stands after the last LF
abbrev pub rest_of : List ℕ → List ℕ
rest_of bytes = last_of (slice_split is_line_end bytes)

-- lines, each with an LF after it
abbrev pub with_ends : List (List ℕ) → List ℕ
with_ends [] = []
with_ends (line ∷ lines) = line ++ 10 ∷ with_ends lines

-- what stands after the first n LFs
abbrev pub after_lines : ℕ → List ℕ → List ℕ
after_lines zero bytes = bytes
after_lines (suc n) [] = []
after_lines (suc n) (c ∷ cs) = if is_line_end c then after_lines n cs else after_lines (suc n) cs

-- there are bytes
abbrev pub has_bytes : List ℕ → Bool
has_bytes [] = false
has_bytes (c ∷ cs) = true

-- What stands after the last LF is a line where it has bytes and nothing follows it. It counts as
-- one too where no bytes that follow can make it good: where it is too long, or one line too many.
abbrev pub counts : ℕ → List ℕ → Bool → Bool
counts before rest ended =
    has_bytes rest && (ended || nat_lt LONGEST_LINE (length rest) || nat_le MOST_LINES before)

-- the rest as a line, or none
abbrev pub rest_lines : ℕ → List ℕ → Bool → List (List ℕ)
rest_lines before rest ended = if counts before rest ended then rest ∷ [] else []

-- the lines of bytes that stand after this many lines
abbrev pub lines_from : ℕ → List ℕ → Bool → List (List ℕ)
lines_from before bytes ended =
    whole_lines bytes ++ rest_lines (before + length (whole_lines bytes)) (rest_of bytes) ended

-- the lines of a script of which these bytes were taken; `ended` says that it has no more
abbrev pub script_lines : List ℕ → Bool → List (List ℕ)
script_lines bytes ended = lines_from 0 bytes ended

-- a line without the CR at its end
abbrev pub content : List ℕ → List ℕ
content line =
    if slice_index line (length line - 1) == 13 then take (length line - 1) line else line

-- a space or a tab
abbrev pub is_space_or_tab : ℕ → Bool
is_space_or_tab c = c == 32 || c == 9

-- the words of a line: its pieces between spaces and tabs that have bytes
abbrev pub words : List ℕ → List (List ℕ)
words text = filter has_bytes (slice_split is_space_or_tab text)
