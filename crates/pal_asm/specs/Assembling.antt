-- The code of an assembler text, or its first fault.
use Rattle.std.specs.Prelude.{◌≡◌, ℕ, ◌+◌, nat_lt, Bool, false, List, [], ◌∷◌, ◌++◌, find, Option, Some, None, option_map, is_some, Result, Ok, Err, if◌then◌else◌}
use Rattle.std.specs.List.{list_all}
use Rattle.std.specs.Str.{bytes_eq}
use Rattle.flk_base.specs.Checks.{◌>>=◌}
use Rattle.pal_asm.specs.declared.fault.AsmKind.{AsmKind}
use Rattle.pal_asm.specs.declared.fault.AsmKind.TheVariants as kind
use Rattle.pal_asm.specs.declared.fault.AsmFault.{AsmFault}
use Rattle.pal_asm.specs.declared.limits.TheConstants.{CODE_START}
use Rattle.pal_asm.specs.declared.name.Name.{Name}
use Rattle.pal_asm.specs.declared.names.Mnemonic.{Mnemonic}
use Rattle.pal_asm.specs.Lines.{lines, content, without_comment}
use Rattle.pal_asm.specs.Tokens.{Token, Word, Colon, tokens}
use Rattle.pal_asm.specs.Names.{mnemonic_of, name_of}
use Rattle.pal_asm.specs.Operands.{operands_of, is_in_range}
use Rattle.pal_asm.specs.Statements.{Statement, statement_of, least_number, most_number, most_code, bytes_at, size_of, label_of}

-- the value, or this fault where there is none
abbrev pub or_fault : {A E : Type 0} → E → Option A → Result A E
or_fault fault (Some x) = Ok x
or_fault fault None = Err fault

-- this value, but for a fault
abbrev pub unless : {A E : Type 0} → Bool → E → A → Result A E
unless bad fault x = if bad then Err fault else Ok x

-- ---- one line

-- what a line has: a label, and a statement
pub record Line : Type 0 where
  pub label : Option Name
  pub statement : Option Statement

-- the label of a line and the tokens after it: a label is there where a colon stands first or
-- second
abbrev pub label_in : List Token → Result (Option Name × List Token) AsmKind
label_in (Colon ∷ rest) = Err kind.Word
label_in (Word w ∷ Colon ∷ rest) =
    or_fault kind.Word (option_map (λ name. (Some name, rest)) (name_of w))
label_in (_ ∷ Colon ∷ rest) = Err kind.Word
label_in rest = Ok (None, rest)

-- the word of a statement and the tokens after it
abbrev pub word_in : List Token → Result (Option (Mnemonic × List Token)) AsmKind
word_in [] = Ok None
word_in (Word w ∷ rest) = or_fault kind.Word (option_map (λ m. Some (m, rest)) (mnemonic_of w))
word_in _ = Err kind.Word

-- a statement by its word and the tokens after it: its form, then its ranges
abbrev pub statement_in : Option (Mnemonic × List Token) → Result (Option Statement) AsmKind
statement_in None = Ok None
statement_in (Some (m, rest)) =
    or_fault kind.Operand (operands_of rest) >>= λ os.
    or_fault kind.Operand (statement_of m os) >>= λ s.
    if list_all (is_in_range (least_number m) (most_number m)) os then Ok (Some s)
    else Err kind.Range

-- what is wrong with a line by itself, whatever stands before it
abbrev pub line_alone : List Token → Result (Option Statement) AsmKind
line_alone ts = label_in ts >>= λ label. word_in label.1 >>= λ word. statement_in word

-- ---- lines before a line

-- a statement with the number of its line and its offset
pub record PlacedStatement : Type 0 where
  pub line : ℕ
  pub at : ℕ
  pub statement : Statement

-- what lines gave: the labels with their values, the statements, and the offset after them
pub record Draft : Type 0 where
  pub labels : List (Name × ℕ)
  pub placed : List PlacedStatement
  pub end : ℕ

-- the offset of the first byte of code in the segment
abbrev pub code_start : ℕ
code_start = CODE_START

-- the farthest offset after the code
abbrev pub most_end : ℕ
most_end = code_start + most_code

-- before the first line
abbrev pub no_lines : Draft
no_lines = record { labels = []; placed = []; end = code_start }

-- the value of a label
abbrev pub value_of : List (Name × ℕ) → Name → Option ℕ
value_of labels name = option_map (λ e. e.1) (find (λ e. bytes_eq e.0 name) labels)

-- the label of a line has been defined
abbrev pub is_defined : List (Name × ℕ) → Option Name → Bool
is_defined labels None = false
is_defined labels (Some name) = is_some (value_of labels name)

-- how many bytes a line has
abbrev pub line_size : Option Statement → ℕ
line_size None = 0
line_size (Some s) = size_of s

-- the line, where the code is not too long with it
abbrev pub sized_line : Draft → Option Name → Option Statement → Result Line AsmKind
sized_line before label statement =
    unless (nat_lt most_end (before.end + line_size statement)) kind.TooLong
    (record { label = label; statement = statement })

-- a line after others, or its first fault: the checks in their order
abbrev pub line_in : Draft → List Token → Result Line AsmKind
line_in before ts =
    label_in ts >>= λ label.
    word_in label.1 >>= λ word.
    unless (is_defined before.labels label.0) kind.Twice label.0 >>= λ name.
    statement_in word >>= λ statement.
    sized_line before name statement

-- a label stands for the offset that was reached
abbrev pub with_label : Option Name → ℕ → List (Name × ℕ) → List (Name × ℕ)
with_label None at labels = labels
with_label (Some name) at labels = labels ++ (name, at) ∷ []

abbrev pub with_statement : Option Statement → ℕ → ℕ → List PlacedStatement → List PlacedStatement
with_statement None line at placed = placed
with_statement (Some s) line at placed =
    placed ++ record { line = line; at = at; statement = s } ∷ []

-- with one more line, of this number
abbrev pub with_line : ℕ → Draft → Line → Draft
with_line n before line = record {
  labels = with_label line.label before.end before.labels;
  placed = with_statement line.statement n before.end before.placed;
  end = before.end + line_size line.statement;
}

-- ---- the whole text

-- a fault in a line
abbrev pub at_line : {A : Type 0} → ℕ → Result A AsmKind → Result A AsmFault
at_line n (Ok x) = Ok x
at_line n (Err k) = Err (record { line = n; kind = k })

-- the tokens of a line
abbrev pub line_tokens : List ℕ → List Token
line_tokens line = tokens (without_comment (content line))

-- there is nothing on these lines but spaces, tabs and comments
abbrev pub AreBlank : List (List ℕ) → Type 0
AreBlank [] = Unit {0}
AreBlank (line ∷ rest) = (line_tokens line ≡ []) × AreBlank rest

-- these tokens, or the others where there are none
abbrev pub or_others : List Token → List Token → List Token
or_others [] others = others
or_others (t ∷ ts) others = t ∷ ts

-- the tokens of the first line that is not blank
abbrev pub first_tokens : List (List ℕ) → List Token
first_tokens [] = []
first_tokens (line ∷ rest) = or_others (line_tokens line) (first_tokens rest)

-- The first pass, from line n on: the first line with a fault decides.
abbrev pub draft_of : ℕ → Draft → List (List ℕ) → Result Draft AsmFault
draft_of n before [] = Ok before
draft_of n before (line ∷ rest) =
    at_line n (line_in before (line_tokens line)) >>= λ l.
    draft_of (n + 1) (with_line n before l) rest

-- the value of the label that a statement waits for; any will do where it waits for none
abbrev pub awaited : List (Name × ℕ) → Option Name → Option ℕ
awaited labels None = Some 0
awaited labels (Some name) = value_of labels name

-- the bytes of a statement, where its label is defined
abbrev pub bytes_with : List (Name × ℕ) → ℕ → Statement → Option (List ℕ)
bytes_with labels at s = option_map (λ value. bytes_at at value s) (awaited labels (label_of s))

-- the same of a placed statement, or the fault of its line
abbrev pub placed_bytes : List (Name × ℕ) → PlacedStatement → Result (List ℕ) AsmFault
placed_bytes labels p = at_line p.line (or_fault kind.Label (bytes_with labels p.at p.statement))

-- The second pass: the bytes of the statements, or the first line whose label is not defined.
abbrev pub code_with : List (Name × ℕ) → List PlacedStatement → Result (List ℕ) AsmFault
code_with labels [] = Ok []
code_with labels (p ∷ ps) =
    placed_bytes labels p >>= λ bytes. code_with labels ps >>= λ rest. Ok (bytes ++ rest)

-- the code of a text, or its first fault
abbrev pub code_of : List ℕ → Result (List ℕ) AsmFault
code_of text = draft_of 1 no_lines (lines text) >>= λ draft. code_with draft.labels draft.placed
