-- How a call ends by its words and the bytes taken alone.
use Rattle.std.specs.Prelude.{◌≡◌, ◌⊎◌, ℕ, ◌≤◌, Bool, true, false, List, Option, Some, None, Ok}
use Rattle.std.specs.Io.KnownBytes.{Appends}
use Rattle.flk_base.specs.Streams.{Intake, Output, Takes, IsSettled}
use Rattle.flk_base.specs.declared.run_end.RunEnd.{RunEnd}
use Rattle.flk_base.specs.declared.run_end.RunEnd.TheVariants.{Done, Bad}
use Rattle.flk_run.specs.declared.run.ScriptFault.{ScriptFault}
use Rattle.flk_run.specs.Runs.{bad_in}
use Rattle.flk_filters.specs.declared.fault.BadInput.{BadInput}
use Rattle.script_text.specs.Verify.{Claim}
use Rattle.flk_filters.specs.declared.filter.Filter.TheVariants.{Verify}
use Rattle.flk_filters.specs.Filters.{claim_in, is_true, fault_in}
use Rattle.flicker_cli.specs.declared.words.Command.{Command}
use Rattle.flicker_cli.specs.declared.words.Command.TheVariants.{Run, Filter}
use Rattle.flicker_cli.specs.declared.fault.Fault.{Fault}
use Rattle.flicker_cli.specs.declared.fault.Fault.TheVariants.{Words, Script, Input}
use Rattle.flicker_cli.specs.Messages.{message_of, status_of}

-- the end of a script with this first bad line, or with none
abbrev pub script_end : Option ScriptFault → RunEnd Fault
script_end None = Done
script_end (Some first) = Bad (Script first)

-- the end of a filter whose input has this fault, or none
abbrev pub input_end : Option BadInput → RunEnd Fault
input_end None = Done
input_end (Some bad) = Bad (Input bad)

-- how a call ends on these bytes, of which `ended` says that they are all
abbrev pub end_on : Option Command → List ℕ → Bool → RunEnd Fault
end_on None taken ended = Bad Words
end_on (Some Run) taken ended = script_end (bad_in taken ended)
end_on (Some (Filter which)) taken ended = input_end (fault_in which taken)

-- the status is that of a call whose end is that of its words and the bytes taken
abbrev pub IsTextStatus : ℕ → Type 0
IsTextStatus status = (status ≤ 2) ⊎ (status ≡ 6)

-- the command is `verify`, the whole source was taken, it is a line of its form, and the quote in it is not that of the
-- session that it describes
pub record IsDenied (task : Option Command) (source : Intake) : Type 0 where
  pub taken : List ℕ
  pub takes : Takes source.old.left source.new.left taken true
  pub verify : task ≡ Some (Filter Verify)
  pub claim : Claim
  pub read : claim_in taken ≡ Ok claim
  pub denied : is_true claim ≡ false

-- the end is that of the bytes taken, whatever follows them; err has its message, and the status is its own
pub record IsText (task : Option Command) (status : ℕ) (source : Intake) (err : Output) : Type 0 where
  pub taken : List ℕ
  pub ended : Bool
  pub takes : Takes source.old.left source.new.left taken ended
  pub end : RunEnd Fault
  pub settled : IsSettled (end_on task) taken ended end
  pub read : end ≡ Done → ended ≡ true
  pub written : Appends err.old.contents err.new.contents (message_of end)
  pub answer : status ≡ status_of end
