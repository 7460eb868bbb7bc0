-- What a line asks for, or the first thing that is wrong with it: the checks in their order.
use Rattle.std.specs.Prelude.{ℕ, nat_lt, nat_le, Bool, true, false, List, [], ◌∷◌, ◌==◌, ◌&&◌, length, drop, Option, Some, None, Result, Ok, Err, if◌then◌else◌}
use Rattle.std.specs.Option.{ok_or}
use Rattle.std.specs.List.{list_all, list_any, find}
use Rattle.std.specs.Str.{bytes_eq}
use Rattle.flk_base.specs.Checks.{◌>>=◌}
use Rattle.expr_text.specs.Numbers.{number_of}
use Rattle.expr_text.specs.Expressions.{Term, is_name}
use Rattle.expr_text.specs.ExpressionReading.{all_of, expression_of}
use Rattle.script_text.specs.Lines.{words, content}
use Rattle.script_text.specs.declared.line.TheConstants.{LONGEST_LINE, MOST_LINES}
use Rattle.script_text.specs.Grammar.{Request, Nothing, Meaning, Meanings, image_kind_word, register_of, row, request, is_printable, is_comment}
use Rattle.script_text.specs.declared.command.Kind.{Kind}
use Rattle.script_text.specs.declared.command.Kind.TheVariants.{Number, Name, ImageKind, Register, Expression}
use Rattle.script_text.specs.declared.command.Command.{Command}
use Rattle.script_text.specs.declared.command.TheConstants.{COMMANDS}
use Rattle.script_text.specs.declared.line.BadLine.{BadLine}
use Rattle.script_text.specs.declared.line.BadLine.TheVariants.{Faulty, TooMany}
use Rattle.script_text.specs.declared.line.LineFault.{LineFault}
use Rattle.script_text.specs.declared.line.LineFault.TheVariants as fault

-- ---- the words after a command's

-- what a word stands for, by the kind that it has to be
abbrev pub meaning_in : (kind : Kind) → List ℕ → Result (Meaning kind) LineFault
meaning_in Number word = ok_or (number_of word) fault.Number
meaning_in Name word = if is_name word then Ok word else Err fault.Name
meaning_in ImageKind word =
    if bytes_eq word (image_kind_word false) then Ok false
    else if bytes_eq word (image_kind_word true) then Ok true
    else Err fault.Name
meaning_in Register word = ok_or (register_of word) fault.Name
meaning_in Expression word = ok_or (expression_of word) fault.Expression

-- what the first words stand for, from the left, each by its kind
abbrev pub each_in : (kinds : List Kind) → List (List ℕ) → Result (Meanings kinds) LineFault
each_in [] others = Ok tt
each_in (kind ∷ kinds) [] = Err fault.Count
each_in (kind ∷ kinds) (word ∷ others) =
    meaning_in kind word >>= λ meaning. each_in kinds others >>= λ meanings. Ok (meaning, meanings)

-- what the words after those stand for, each an expression: whichever of them is bad, the fault is
-- the same
abbrev pub texts_in : (kinds : List Kind) → List (List ℕ) → Result (List (List Term)) LineFault
texts_in kinds others =
    ok_or (all_of expression_of (drop (length kinds) others)) fault.Expression

-- ---- a line

-- the word is a command's
unfoldable pub is_command : List ℕ → Bool
is_command word = list_any (λ command. bytes_eq (row command).word word) COMMANDS

-- so many words may stand for so many kinds: as many, or, where more may follow, no fewer
abbrev pub is_count : (more : Bool) → (kinds count : ℕ) → Bool
is_count more kinds count = if more then nat_le kinds count else count == kinds

-- the command has this word, and may have so many words after it
abbrev pub fits : List ℕ → ℕ → Command → Bool
fits word count command =
    bytes_eq (row command).word word
    && is_count (row command).more (length (row command).kinds) count

-- the command of a word with so many words after it
unfoldable pub command_of : List ℕ → ℕ → Option Command
command_of word count = find (fits word count) COMMANDS

-- the same, or what is wrong: first the word, then how many words there are after it
abbrev pub command_for : List ℕ → ℕ → Result Command LineFault
command_for word count =
    if is_command word then ok_or (command_of word count) fault.Count else Err fault.Command

-- the command, then each of its arguments, then its texts
abbrev pub command_in : List ℕ → List (List ℕ) → Result Request LineFault
command_in word others =
    command_for word (length others) >>= λ command.
    each_in (row command).kinds others >>= λ arguments.
    texts_in (row command).kinds others >>= λ texts. Ok (request command arguments texts)

-- the words of a line
abbrev pub words_in : List (List ℕ) → Result Request LineFault
words_in [] = Ok Nothing
words_in (word ∷ others) =
    if is_comment (word ∷ others) then Ok Nothing else command_in word others

-- a line: its length, its bytes, then its words
abbrev pub reading : List ℕ → Result Request LineFault
reading line =
    if nat_lt LONGEST_LINE (length line) then Err fault.LongLine
    else if list_all is_printable (content line) then words_in (words (content line))
    else Err fault.Byte

-- a line with a fault is bad
abbrev pub as_bad : Result Request LineFault → Result Request BadLine
as_bad (Ok asked) = Ok asked
as_bad (Err why) = Err (Faulty why)

-- what line n of a script asks for, or why it is bad: none may stand after the last that a script
-- may have
abbrev pub judged : ℕ → List ℕ → Result Request BadLine
judged n line = if nat_lt MOST_LINES n then Err TooMany else as_bad (reading line)

-- ---- memory: it is asked for by a name and by an expression alone

-- it is found before any word after the command is tried
abbrev pub IsEarly : LineFault → Type 0
IsEarly fault.LongLine = Unit {0}
IsEarly fault.Byte = Unit {0}
IsEarly fault.Command = Unit {0}
IsEarly fault.Count = Unit {0}
IsEarly other = ⊥

-- nothing is wrong, or only with a word after the command
abbrev pub IsLate : {A : Type 0} → Result A LineFault → Type 0
IsLate (Ok read) = Unit {0}
IsLate (Err why) = IsEarly why → ⊥

-- a word of this kind is kept in memory
abbrev pub is_kept : Kind → Bool
is_kept Number = false
is_kept Name = true
is_kept ImageKind = false
is_kept Register = false
is_kept Expression = true

-- words of these kinds may allocate
abbrev pub may_allocate : List Kind → Bool
may_allocate kinds = list_any is_kept kinds

-- the arguments of a command, if there is one, may allocate
abbrev pub command_may_allocate : Option Command → Bool
command_may_allocate None = false
command_may_allocate (Some command) = may_allocate (row command).kinds

-- the words of a line may allocate: they begin with a command with a name or an expression after it
abbrev pub words_may_allocate : List (List ℕ) → Bool
words_may_allocate [] = false
words_may_allocate (word ∷ others) = command_may_allocate (command_of word (length others))
