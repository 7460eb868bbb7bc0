-- What a function answers, where memory runs out only where it may.
use Rattle.std.proofs.Common.{◌≡◌, inl, inr, ℕ, List, [], length, drop, true, false, refl, ap, subst, ◌∙◌}
use Rattle.std.specs.Prelude.{Result, Ok, Err, IsOk}
use Rattle.std.proofs.lemmas.Bool.{cases_Bool}
use Rattle.flk_base.specs.Checks.{Gives}
use Rattle.expr_text.specs.Expressions.{Term}
use Rattle.script_text.specs.Lines.{words, content}
use Rattle.script_text.specs.Grammar.{Request, Nothing, Meanings, row, request, is_comment, SpellsCommand, SpellsWords}
use Rattle.script_text.specs.Reading.{IsEarly, IsLate, is_count, may_allocate, words_may_allocate, reading}
use Rattle.script_text.specs.Seen.{line_fault, request_of}
use Rattle.script_text.specs.declared.command.Command.{Command}
use Rattle.script_text.specs.declared.command.Command.TheVariants.{Device, Values, Memory, Processor, Disk}
use Rattle.script_text.specs.declared.command.DeviceCommand.TheVariants.{Extend, Check}
use Rattle.script_text.specs.declared.command.ValuesCommand.TheVariants.{Let}
use Rattle.script_text.specs.declared.command.MemoryCommand.TheVariants.{Take}
use Rattle.script_text.specs.declared.command.ProcessorCommand.TheVariants.{SetReg}
use Rattle.script_text.specs.declared.command.DiskCommand.TheVariants.{Slot}
use Rattle.script_text.specs.declared.line.Event.{Event}
use Rattle.script_text.specs.declared.line.Event.TheVariants as event
use Rattle.script_text.specs.declared.line.LineFault.{LineFault}
use Rattle.script_text.specs.declared.line.LineError.{LineError}
use Rattle.script_text.specs.declared.line.LineError.TheVariants.{Fault, NoMemory}
use Rattle.script_text.proofs.ReadingLemmas.{found, listed, may_follow, none_left}

-- the words that spell a command's request may allocate as the command does
pub words_of : (asked : Request) (line : List (List ℕ)) (s : SpellsCommand asked line)
    → words_may_allocate line ≡ may_allocate (row s.command).kinds
words_of asked line s =
    rw (s.whole, (listed s.command).found _ (may_follow asked line s)) refl

-- where more may follow, there are expressions before it
more_may : (command : Command) → (row command).more ≡ true
    → may_allocate (row command).kinds ≡ true
more_may (Device Check) h = refl
more_may (Values Let) h = refl
more_may (Memory Take) h = cc
more_may (Processor SetReg) h = cc
more_may (Disk Slot) h = cc
more_may _ h = cc

-- and so where words are left after the kinds
pub left_may : (command : Command) (others : List (List ℕ))
    → is_count (row command).more (length (row command).kinds) (length others) ≡ true
    → (drop (length (row command).kinds) others ≡ [] → ⊥) → may_allocate (row command).kinds ≡ true
left_may command others fit some =
    elim (cases_Bool (row command).more) [
      | inl more ↦ more_may command more
      | inr fixed ↦ absurd (some (none_left (row command).more (row command).kinds others fit fixed))
    ]

asks_something : (command : Command) (arguments : Meanings (row command).kinds)
    (texts : List (List Term)) → Nothing ≡ request command arguments texts → ⊥
asks_something (Device Extend) arguments texts h = cc
asks_something (Values Let) arguments texts h = cc
asks_something (Memory Take) arguments texts h = cc
asks_something (Processor SetReg) arguments texts h = cc
asks_something (Disk Slot) arguments texts h = cc
asks_something _ arguments texts h = cc

blank_event : (x : Event) → request_of x ≡ Nothing → x ≡ event.Blank
blank_event event.Blank h = refl
blank_event _ h = cc

-- a comment and a line without words allocate nothing
comment_words : (line : List (List ℕ)) → SpellsWords Nothing line → words_may_allocate line ≡ true
    → is_comment line ≡ false → ⊥
comment_words line (inl none) may other = let is = none.1 in cc
comment_words line (inr s) may other = asks_something s.command s.arguments s.texts s.asks

-- an early fault is answered
pub early_if : {X : Type 0} (view : X
    → Request) (r : Result X LineError) (read : Result Request LineFault)
    → Gives line_fault view r read → (r ≡ Err NoMemory → IsLate read)
    → (why : LineFault) → IsEarly why → read ≡ Err why → r ≡ Err (Fault why)
early_if view (Ok x) read h late why early is = cc
early_if view (Err (Fault e)) read h late why early is =
    let same : e ≡ why = cc in ap (λ f. Err (Fault f)) same
early_if view (Err NoMemory) read h late why early is =
    absurd (let Late : Result Request LineFault
    → Type 0 = λ x. IsLate x in let no : Late (Err why) = subst Late is (late refl) in no early)

-- a request that is read is given, where memory can't run out
given_if : {X : Type 0} (view : X
    → Request) (r : Result X LineError) (read : Result Request LineFault) (asked : Request)
    → Gives line_fault view r read
    → (r ≡ Err NoMemory → ⊥) → read ≡ Ok asked → (x : X) × (r ≡ Ok x) × (view x ≡ asked)
given_if view (Ok x) read asked h never is = (x, refl, cc)
given_if view (Err (Fault e)) read asked h never is = absurd (cc)
given_if view (Err NoMemory) read asked h never is = absurd (never refl)

is_ok_at : {X E : Type 0} (r : Result X E) (x : X) → r ≡ Ok x → IsOk r
is_ok_at r x e = rw e refl

module _ (line : List ℕ) (r : Result Event LineError)
    (exact : Gives line_fault request_of r (reading line))
    (asks : r ≡ Err NoMemory → words_may_allocate (words (content line)) ≡ true) where
  -- a command with neither a name nor an expression after it allocates nothing
  pub plain_if : (asked : Request) (s : SpellsCommand asked (words (content line)))
      → may_allocate (row s.command).kinds ≡ false → reading line ≡ Ok asked → IsOk r
  plain_if asked s plain is =
      let given = given_if request_of r (reading line) asked exact
      (λ out. let yes = asks out in let same = words_of asked (words (content line)) s in cc) is in
      is_ok_at r given.0 given.1

  -- nor does a line that asks for nothing
  pub blank_if : (r ≡ Err NoMemory → is_comment (words (content line)) ≡ false)
      → reading line ≡ Ok Nothing → r ≡ Ok event.Blank
  blank_if other is =
      let given = given_if request_of r (reading line) Nothing exact
      (λ out. comment_words (words (content line)) (found line Nothing is).spelled (asks out)
      (other out)) is in
      given.1 ∙ ap Ok (blank_event given.0 given.2)
