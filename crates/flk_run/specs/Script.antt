-- A script: its lines, judged in order.
use Rattle.std.specs.Prelude.{◌≡◌, ℕ, ◌+◌, true, List, [], ◌∷◌, Option, Some, None, Result, Ok, Err}
use Rattle.script_text.specs.Grammar.{Request, Nothing}
use Rattle.script_text.specs.Lines.{words, content}
use Rattle.script_text.specs.Reading.{judged, IsEarly, words_may_allocate}
use Rattle.script_text.specs.declared.line.BadLine.{BadLine}
use Rattle.script_text.specs.declared.line.BadLine.TheVariants.{Faulty, TooMany}
use Rattle.flk_run.specs.declared.run.ScriptFault.{ScriptFault}

-- a request before others, or none where the line is bad
abbrev pub before_others : Result Request BadLine → List Request → List Request
before_others (Ok request) requests = request ∷ requests
before_others (Err bad) requests = []

-- what the lines before the first bad one ask for; the first line has number n
abbrev pub good_requests : ℕ → List (List ℕ) → List Request
good_requests n [] = []
good_requests n (line ∷ lines) = before_others (judged n line) (good_requests (n + 1) lines)

-- line n where it is bad, or else what is found later
abbrev pub bad_or : ℕ → Result Request BadLine → Option ScriptFault → Option ScriptFault
bad_or n (Ok request) later = later
bad_or n (Err bad) later = Some (record { line = n; bad = bad })

-- the first bad line: its number, and why it is bad
abbrev pub first_bad : ℕ → List (List ℕ) → Option ScriptFault
first_bad n [] = None
first_bad n (line ∷ lines) = bad_or n (judged n line) (first_bad (n + 1) lines)

-- a request for something: the room for its transcript line is allocated
abbrev pub AsksFor : Request → Type 0
AsksFor Nothing = ⊥
AsksFor request = Unit {0}

-- memory may run out at a line that was judged so: a blank one takes none; nor is any taken before
-- an early fault, or for a bad line that begins with no command with a name or an expression
abbrev pub MayRunOut : List ℕ → Result Request BadLine → Type 0
MayRunOut line (Ok request) = AsksFor request
MayRunOut line (Err TooMany) = ⊥
MayRunOut line (Err (Faulty fault)) =
    (IsEarly fault → ⊥) × (words_may_allocate (words (content line)) ≡ true)
