-- What a reader of lines gives, and what it holds.
use Rattle.std.specs.Prelude.{◌≡◌, ◌≢◌, ◌⊎◌, ℕ, ◌+◌, ◌≤◌, Bool, true, false, List, [], ◌∷◌, ◌++◌, length, Option}
use Rattle.std.specs.Io.KnownBytes.{Consumes}
use Rattle.flk_base.specs.Streams.{TakenUntilFault}
use Rattle.script_text.specs.Lines.{IsOneLine}
use Rattle.script_text.specs.declared.line.TheConstants.{LONGEST_LINE}
use Rattle.script_text.specs.declared.reader.TheConstants.{READ_SIZE}
use Rattle.script_text.specs.declared.reader.LineEnd.{LineEnd}
use Rattle.script_text.specs.declared.reader.LineEnd.TheVariants as line
use Rattle.script_text.specs.declared.reader.AnyEnd.{AnyEnd}
use Rattle.script_text.specs.declared.reader.AnyEnd.TheVariants as any

-- the bytes that were taken and not yet given, whether the source gave its end, and the line given
-- last
pub record Held : Type 0 where
  pub bytes : List ℕ
  pub ended : Bool
  pub line : List ℕ

-- bytes that begin with one more byte than a line may have, and none of these is an LF
pub record HasLongPrefix (bytes : List ℕ) : Type 0 where
  pub prefix : List ℕ
  pub more : List ℕ
  pub whole : bytes ≡ prefix ++ more
  pub long : length prefix ≡ LONGEST_LINE + 1
  pub one : IsOneLine prefix

-- no whole line is held and none that is too long, and more may come
pub record WantsMore (held : Held) : Type 0 where
  pub open_end : held.ended ≡ false
  pub short : length held.bytes ≤ LONGEST_LINE
  pub one : IsOneLine held.bytes

-- The bytes begin with the line and its LF, and the rest is held; or the line is all the bytes,
-- and the source gave its end after it.
abbrev pub GivesFirst : List ℕ → Held → Type 0
GivesFirst bytes held =
    (bytes ≡ held.line ++ 10 ∷ held.bytes)
    ⊎ ((held.ended ≡ true) × (bytes ≡ held.line) × (held.line ≢ []) × (held.bytes ≡ []))

-- where these bytes were held or taken: what each answer of `next` says, and what is held after it
abbrev pub AfterNext : LineEnd → List ℕ → Held → Type 0
AfterNext line.Line bytes held =
    IsOneLine held.line × (length held.line ≤ LONGEST_LINE) × GivesFirst bytes held
AfterNext line.End bytes held =
    (held.ended ≡ true) × (bytes ≡ []) × (held.bytes ≡ []) × (held.line ≡ [])
AfterNext line.Long bytes held = HasLongPrefix bytes × (held.bytes ≡ bytes) × (held.line ≡ [])
AfterNext line.Failed bytes held = WantsMore held × (held.bytes ≡ bytes) × (held.line ≡ [])

-- what each answer of `any` says
abbrev pub AfterAny : AnyEnd → List ℕ → Held → Type 0
AfterAny any.Some bytes held = (bytes ≢ []) × (held.bytes ≡ bytes) × (held.line ≡ [])
AfterAny any.End bytes held =
    (held.ended ≡ true) × (bytes ≡ []) × (held.bytes ≡ []) × (held.line ≡ [])
AfterAny any.Failed bytes held =
    (held.ended ≡ false) × (bytes ≡ []) × (held.bytes ≡ []) × (held.line ≡ [])

-- these bytes were taken
abbrev pub TakenByNext : LineEnd → Option (List ℕ) → Option (List ℕ) → List ℕ → Type 0
TakenByNext line.Line before now taken = Consumes before now taken
TakenByNext line.End before now taken = Consumes before now taken
TakenByNext line.Long before now taken = Consumes before now taken
TakenByNext line.Failed before now taken = TakenUntilFault before now taken

-- the same of `any`
abbrev pub TakenByAny : AnyEnd → Option (List ℕ) → Option (List ℕ) → List ℕ → Type 0
TakenByAny any.Some before now taken = Consumes before now taken
TakenByAny any.End before now taken = Consumes before now taken
TakenByAny any.Failed before now taken = TakenUntilFault before now taken

-- what `next` took from the source, and what it left, where the source had and has these bytes left
pub record Next (end : LineEnd) (old new : Held) (before now : Option (List ℕ)) : Type 0 where
  pub taken : List ℕ
  pub consumed : TakenByNext end before now taken
  pub after : AfterNext end (old.bytes ++ taken) new

-- the same of `any`
pub record Any (end : AnyEnd) (old new : Held) (before now : Option (List ℕ)) : Type 0 where
  pub taken : List ℕ
  pub consumed : TakenByAny end before now taken
  pub after : AfterAny end (old.bytes ++ taken) new

-- nothing is read: the answer is about what was held, and the end is given or not as before
abbrev pub NextOfHeld : LineEnd → Held → Held → Type 0
NextOfHeld end old new = AfterNext end old.bytes new × (new.ended ≡ old.ended)

-- the same of `any`
abbrev pub AnyOfHeld : AnyEnd → Held → Held → Type 0
AnyOfHeld end old new = AfterAny end old.bytes new × (new.ended ≡ old.ended)

-- how far the reader is ahead of the line that it gave, or of the prefix of one that is too long
abbrev pub IsAhead : LineEnd → Held → Type 0
IsAhead line.Line held = length held.bytes ≤ READ_SIZE
IsAhead line.End held = Unit {0}
IsAhead line.Long held = length held.bytes ≤ LONGEST_LINE + 1 + READ_SIZE
IsAhead line.Failed held = Unit {0}
