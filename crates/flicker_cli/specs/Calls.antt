-- What a call of the program took, did, wrote and answered, by how it ended, on a platform by the rules of lists or of
-- digests, where it is known.
use Rattle.std.specs.Prelude.{◌≡◌, ◌≢◌, ℕ, List, [], Option, Some, None}
use Rattle.std.specs.Option.{option_map}
use Rattle.std.specs.Io.KnownBytes.{Appends}
use Rattle.flk_base.specs.Causes.{IsCutBy}
use Rattle.flk_base.specs.Known.{AppendsPrefix}
use Rattle.flk_base.specs.Streams.{Intake, Output}
use Rattle.flk_base.specs.RunEnds.{HasCauses, mapped_end}
use Rattle.flk_base.specs.declared.run_end.RunEnd.{RunEnd}
use Rattle.flk_base.specs.declared.run_end.RunEnd.TheVariants.{Bad}
use Rattle.flk_base.specs.declared.streams.PutFault.{PutFault}
use Rattle.flk_base.specs.declared.streams.PutFault.TheVariants.{Failed, NoMemory}
use Rattle.flk_run.specs.declared.run.ScriptFault.{ScriptFault}
use Rattle.script_text.specs.Grammar.{Request}
use Rattle.seal_device.specs.Rules.{Rules}
use Rattle.seal_device.specs.Digests.{digests as by_digests}
use Rattle.seal_device.specs.Lists.{lists as by_lists}
use Rattle.flk_run.specs.Platform.{Platform, ListPlatform, DigestPlatform, platform_digested, at_rest}
use Rattle.flk_run.specs.Runs.{Ran, requests_done}
use Rattle.flk_run.specs.Agreement.{NothingComparedBy, AgreesByLists}
use Rattle.flk_filters.specs.declared.fault.BadInput.{BadInput}
use Rattle.flk_filters.specs.declared.filter.Filter.{Filter as Which}
use Rattle.flk_filters.specs.Inputs.{FilterRan}
use Rattle.flicker_cli.specs.declared.words.Command.{Command}
use Rattle.flicker_cli.specs.declared.words.Command.TheVariants.{Run, Filter}
use Rattle.flicker_cli.specs.declared.fault.Fault.{Fault}
use Rattle.flicker_cli.specs.declared.fault.Fault.TheVariants.{Words, Script, Input}
use Rattle.flicker_cli.specs.Messages.{message_of, status_of}

-- ---- what a command did

-- nothing was asked of the source, nothing was written to out, and the platform is as it was
pub record Untouched {H M : Type 0} (source : Intake) (out : Output) (old new : Option (Platform H M)) : Type 0 where
  pub unasked : source.IsUntouched
  pub unread : source.new.left ≡ source.old.left
  pub unwritten : out.new.contents ≡ out.old.contents
  pub kept : new ≡ old

-- a script ended so; the names that it bound are given up, and no device write stays armed
pub record ScriptRan {H M : Type 0} (R : Rules H M) (end : RunEnd Fault) (source : Intake) (out : Output) (old new : Option (Platform H M)) : Type 0 where
  pub how : RunEnd ScriptFault
  pub is : end ≡ mapped_end Script how
  pub reached : Option (Platform H M)
  pub ran : Ran R how source out old reached
  pub left : new ≡ option_map at_rest reached

-- a filter ended so, and the platform is as it was
pub record InputRan {H M : Type 0} (which : Which) (end : RunEnd Fault) (source : Intake) (out : Output) (old new : Option (Platform H M)) : Type 0 where
  pub how : RunEnd BadInput
  pub is : end ≡ mapped_end Input how
  pub ran : FilterRan which how source out
  pub kept : new ≡ old

-- what a call of these words that ended so took, did and wrote to out; words that are in no row of the table of commands
-- are an end by themselves
abbrev pub CallRan : {H M : Type 0} → Rules H M → Option Command → RunEnd Fault → Intake → Output → Option (Platform H M) → Option (Platform H M) → Type 0
CallRan R None end source out old new = (end ≡ Bad Words) × Untouched source out old new
CallRan R (Some Run) end source out old new = ScriptRan R end source out old new
CallRan R (Some (Filter which)) end source out old new = InputRan which end source out old new

-- ---- what was reported

-- a message was put on err, all of it; or, where it has bytes, it was cut short by this fault
abbrev pub Reported : List ℕ → Option PutFault → Output → Type 0
Reported message None err = Appends err.old.contents err.new.contents message × (err.new.faults ≡ err.old.faults)
Reported message (Some fault) err =
    (message ≢ [])
    × AppendsPrefix err.old.contents err.new.contents [] message
    × IsCutBy fault err.may_allocate err.old.faults err.new.faults

-- the status: that of the end where its message is written
abbrev pub status_after : RunEnd Fault → Option PutFault → ℕ
status_after end None = status_of end
status_after end (Some Failed) = 4
status_after end (Some NoMemory) = 5

-- ---- the clause of the top call

-- the call ended so: what it took, did and wrote, what caused that end, its message, and the status
pub record Answered {H M : Type 0} (R : Rules H M) (task : Option Command) (status : ℕ) (source : Intake) (out err : Output) (old new : Option (Platform H M)) : Type 0 where
  pub end : RunEnd Fault
  pub cut : Option PutFault
  pub ran : CallRan R task end source out old new
  pub caused : HasCauses end source out
  pub reported : Reported (message_of end) cut err
  pub answer : status ≡ status_after end cut

-- ---- by lists

-- the requests that a call did: of a script as far as it came, and else none
abbrev pub call_done : {H M : Type 0} (R : Rules H M) (task : Option Command) (end : RunEnd Fault) (source : Intake) (out : Output) (old new : Option (Platform H M))
    → CallRan R task end source out old new → List Request
call_done R None end source out old new ran = []
call_done R (Some Run) end source out old new ran = requests_done R ran.how source out old ran.reached ran.ran
call_done R (Some (Filter which)) end source out old new ran = []

-- the call ended so by digests, and so it did by lists, from each platform of lists that stands for the old one, where no
-- command compared
pub record AnsweredTwice (task : Option Command) (status : ℕ) (source : Intake) (out err : Output) (old new : Option DigestPlatform) : Type 0 where
  pub digests : Answered by_digests task status source out err old new
  pub lists : (p : ListPlatform) → old ≡ Some (platform_digested p)
      → NothingComparedBy (call_done by_digests task digests.end source out old new digests.ran) (platform_digested p)
      → AgreesByLists (Answered by_lists task status source out err) p new
