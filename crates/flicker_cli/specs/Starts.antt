-- A call over std's reader and writers.
use Rattle.std.specs.Prelude.{◌≡◌, ℕ, false, List, [], Option, Some, Result, Ok, Err}
use Rattle.flk_base.specs.Known.{Edge}
use Rattle.flk_base.specs.Streams.{Intake, Output}
use Rattle.seal_device.specs.Digests.{digests}
use Rattle.job_store.specs.Simulated.{blank_failing}
use Rattle.flk_run.specs.Platform.{DigestPlatform, blank}
use Rattle.flicker_cli.specs.declared.words.Command.{Command}
use Rattle.flicker_cli.specs.declared.start.StartFault.{StartFault}
use Rattle.flicker_cli.specs.declared.start.StartFault.TheVariants.{NotText, NoMemory}
use Rattle.flicker_cli.specs.Calls.{AnsweredTwice}

-- a reader or a writer that has had no fault so far
abbrev pub edge : {T : Type 0} → T → Edge T
edge inner = record { inner = inner; faults = 0 }

-- a reader over a call, by what it makes known of its bytes and the faults that were counted
abbrev pub read_over : {R : Type 0} → (R → Option (List ℕ)) → Edge R → Edge R → Intake
read_over remaining old new = record {
  old = record { left = remaining old.inner; faults = old.faults };
  new = record { left = remaining new.inner; faults = new.faults };
  IsUntouched = new ≡ old;
}

-- a writer over a call, the same way; its puts never allocate
abbrev pub written_over : {W : Type 0} → (W → Option (List ℕ)) → Edge W → Edge W → Output
written_over contents old new = record {
  old = record { contents = contents old.inner; faults = old.faults };
  new = record { contents = contents new.inner; faults = new.faults };
  may_allocate = false;
}

-- a call of these words answered this status, over this reader and these writers, from a platform that was never used,
-- beside a disk of zeros of which no call fails; what it left is given up
pub record AnsweredOver (task : Option Command) (status : ℕ) (source : Intake) (out err : Output) : Type 0 where
  pub left : Option DigestPlatform
  pub answered : AnsweredTwice task status source out err (Some (blank digests (blank_failing []))) left

-- the status that the program ends with
abbrev pub start_status : Result ℕ StartFault → ℕ
start_status (Ok status) = status
start_status (Err NotText) = 2
start_status (Err NoMemory) = 5
