-- What `next` keeps while it reads, and what its answers follow from.
use Rattle.std.proofs.Common.{◌≡◌, ◌⊎◌, ℕ, ◌+◌, ◌-◌, true, List, [], ◌++◌, length, cond}
use Rattle.std.specs.Prelude.{Option}
use Rattle.std.specs.Io.KnownBytes.{Consumes, IsAtEnd}
use Rattle.script_text.specs.declared.line.TheConstants.{LONGEST_LINE}
use Rattle.script_text.specs.Reader.{Held, WantsMore}

-- so many bytes were taken since the call began, and none were given
pub record Reading (old now : Held) (before left : Option (List ℕ)) : Type 0 where
  pub taken : List ℕ
  pub consumed : Consumes before left taken
  pub bytes : now.bytes ≡ old.bytes ++ taken
  pub line : now.line ≡ []
  pub end : (old.ended ≡ true → IsAtEnd before) → now.ended ≡ true → IsAtEnd left

-- nothing was read, or there was no whole line to give
abbrev pub MayRead : {X : Type 0} → Held → Held → X → X → Type 0
MayRead old now before left =
    ((left ≡ before) × (now.bytes ≡ old.bytes) × (now.ended ≡ old.ended)) ⊎ WantsMore old

-- how much may still be read before there is an answer: each read takes a byte, or comes to the end
abbrev pub to_read : Held → ℕ
to_read held = (LONGEST_LINE + 1 - length held.bytes) + cond held.ended 0 1
