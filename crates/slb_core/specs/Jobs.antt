-- Sessions of a job's image: what each mode does.
use Rattle.std.specs.Prelude.{◌≡◌, ℕ, ◌+◌, Bool, true, false, List, [], ◌++◌, length, Option, Some, None, Result, Ok, Err}
use Rattle.byteorder.specs.Endian.{big_bytes}
use Rattle.flk_base.specs.Plan.{Plan, Return, Ask, ◌>>=◌}
use Rattle.i386_profile.specs.declared.operands.Reg.TheVariants.{Ecx, Edx, Esi}
use Rattle.i386_profile.specs.declared.cpu.Cpu.{Cpu}
use Rattle.i386_profile.specs.Flags.{set}
use Rattle.i386_profile.specs.Effects.{State}
use Rattle.machine_memory.specs.Writes.{written}
use Rattle.tpm_state.specs.Refusals.Create as creates
use Rattle.tpm_state.specs.Refusals.Increment as increments
use Rattle.seal_device.specs.Blobs.{blob_counter}
use Rattle.seal_device.specs.Commands.{Command, Seal, Unseal, CheckNext, NewCounter, Increment, Reply}
use Rattle.seal_device.specs.Refusals.Seal as seals
use Rattle.seal_device.specs.Refusals.Unseal as unseals
use Rattle.late_launch.specs.declared.ends.End.{End}
use Rattle.late_launch.specs.declared.ends.End.TheVariants.{Done, Refused}
use Rattle.late_launch.specs.declared.ends.JobRefusal.{JobRefusal}
use Rattle.late_launch.specs.declared.ends.JobRefusal.TheVariants as refusals
use Rattle.late_launch.specs.Regions.{inputs_offset}
use Rattle.slb_core.specs.Services.{kept_offset}
use Rattle.slb_core.specs.Pal.{Outside, CodeStart, PalEnd, CodeEnd, pal}
use Rattle.slb_core.specs.declared.job_inputs.Mode.{Mode}
use Rattle.slb_core.specs.declared.job_inputs.Mode.TheVariants.{New, Step, Commit, Probe}
use Rattle.slb_core.specs.JobInputs.{Asked}

-- ---- ends

-- a session that is refused, for which no code ran
abbrev pub refused : JobRefusal → Outside → PalEnd
refused why o = record { end = Refused why; turns = 0; outputs = []; outside = o }

-- a session that is done, for which no code ran
abbrev pub passed_over : Outside → PalEnd
passed_over o = record { end = Done 0; turns = 0; outputs = []; outside = o }

-- why a session is refused whose blob is not opened
abbrev pub unseal_refusal : unseals.Refusal → JobRefusal
unseal_refusal unseals.NotBlob = refusals.NotOpen
unseal_refusal unseals.WrongChain = refusals.NotOpen
unseal_refusal unseals.WrongCounter = refusals.NotOpen
unseal_refusal unseals.Unprovisioned = refusals.Unprovisioned

-- why a session is refused whose state is not sealed; the first two don't come, since a state is short and its counter
-- is in use
abbrev pub seal_refusal : seals.Refusal → JobRefusal
seal_refusal seals.TooLong = refusals.NotOpen
seal_refusal seals.NoCounter = refusals.NotOpen
seal_refusal seals.CounterEnd = refusals.CounterEnd
seal_refusal seals.SerialEnd = refusals.SerialEnd
seal_refusal seals.Unprovisioned = refusals.Unprovisioned

-- ---- code that runs with a state

-- the registers that a job's code begins with: how many bytes its own inputs have and where they lie, after mode and
-- blob, and how many bytes of state were kept
abbrev pub registers_with : Cpu → (own blob kept : ℕ) → Cpu
registers_with start own blob kept = set (set (set start Ecx own) Esi (inputs_offset + (3 + blob))) Edx kept

-- the state that it begins with: what was kept lies in its place
abbrev pub with_kept : State → Asked → List ℕ → State
with_kept s asked kept = record {
  cpu = registers_with s.cpu (length asked.own) (length asked.blob) (length kept);
  bytes = written s.bytes kept_offset kept;
}

-- the outputs of a session that sealed a state: how many bytes its blob has in two, the higher first, the blob, and the
-- outputs of the code
abbrev pub job_outputs : List ℕ → List ℕ → List ℕ
job_outputs blob own = big_bytes 2 (length blob) ++ blob ++ own

-- how the session ends of code that ended by itself: with the blob of its state, or for want of one
abbrev pub sealed_end : PalEnd → Result (List ℕ) seals.Refusal → PalEnd
sealed_end ended (Ok blob) = record ended {
  end = Done (length (job_outputs blob ended.outputs));
  outputs = job_outputs blob ended.outputs;
}
sealed_end ended (Err refusal) = record ended { end = Refused (seal_refusal refusal); outputs = [] }

-- after code that ended so: where it ended by itself, its state is sealed for a counter
abbrev pub seals_after : End → ℕ → Bool → CodeEnd → Plan Command Reply PalEnd
seals_after (Done n) id ahead code =
    Ask (Seal code.kept (Some id) ahead) (λ reply. Return (sealed_end code.ended reply))
seals_after other id ahead code = Return code.ended

-- the code runs with the state that was kept, and its new one is sealed for a counter
abbrev pub runs_with : CodeStart → Asked → List ℕ → ℕ → Bool → Plan Command Reply PalEnd
runs_with start asked kept id ahead =
    pal true start.permits start.budget 0 (with_kept start.state asked kept) start.outside
    >>= λ code. seals_after code.ended.end id ahead code

-- ---- modes

-- a job is born: once it has its counter, the code runs with no state
abbrev pub born : CodeStart → Asked → Result ℕ creates.Refusal → Plan Command Reply PalEnd
born start asked (Ok id) = runs_with start asked [] id false
born start asked (Err refusal) = Return (refused refusals.NoCounterLeft start.outside)

-- a step from a state that was unsealed from a blob with this counter: its new state is sealed for the counter's next
-- value
abbrev pub steps_from : CodeStart → Asked → List ℕ → Option ℕ → Plan Command Reply PalEnd
steps_from start asked kept (Some id) = runs_with start asked kept id true
steps_from start asked kept None = Return (refused refusals.NotOpen start.outside)

-- a step, once the blob was tried
abbrev pub steps : CodeStart → Asked → Result (List ℕ) unseals.Refusal → Plan Command Reply PalEnd
steps start asked (Ok kept) = steps_from start asked kept (blob_counter asked.blob)
steps start asked (Err refusal) = Return (refused (unseal_refusal refusal) start.outside)

-- how a commit ends, once the counter was incremented or not
abbrev pub committed : Outside → Result ℕ increments.Refusal → PalEnd
committed o (Ok value) = passed_over o
committed o (Err refusal) = refused refusals.NotOpen o

-- a commit, once the blob was tried for its counter's next value
abbrev pub commits : Outside → Result ℕ unseals.Refusal → Plan Command Reply PalEnd
commits o (Ok id) = Ask (Increment id) (λ reply. Return (committed o reply))
commits o (Err refusal) = Return (refused (unseal_refusal refusal) o)

-- how a probe ends, by the counter that the blob bears and what it opened to
abbrev pub probed : Outside → Option ℕ → Result (List ℕ) unseals.Refusal → PalEnd
probed o counter (Err refusal) = refused (unseal_refusal refusal) o
probed o (Some id) (Ok kept) = passed_over o
probed o None (Ok kept) = refused refusals.NotOpen o

-- what a mode does
abbrev pub in_mode : Mode → CodeStart → Asked → Plan Command Reply PalEnd
in_mode New start asked = Ask NewCounter (born start asked)
in_mode Step start asked = Ask (Unseal asked.blob) (steps start asked)
in_mode Commit start asked = Ask (CheckNext asked.blob) (commits start.outside)
in_mode Probe start asked =
    Ask (Unseal asked.blob) (λ reply. Return (probed start.outside (blob_counter asked.blob) reply))

-- what is done that a job's inputs ask for
abbrev pub does_asked : CodeStart → Option Asked → Plan Command Reply PalEnd
does_asked start None = Return (refused refusals.Input start.outside)
does_asked start (Some asked) = in_mode asked.mode start asked

-- ---- what a job's code leaves

-- the mode runs the job's code
abbrev pub runs_code : Mode → Bool
runs_code New = true
runs_code Step = true
runs_code other = false

-- outputs that are a blob and the outputs of a job's code
pub record HasBlob (outputs : List ℕ) : Type 0 where
  pub blob : List ℕ
  pub own : List ℕ
  pub are : outputs ≡ job_outputs blob own

-- a session that ended so has such outputs, if it is done
abbrev pub KeepsBlob : End → List ℕ → Type 0
KeepsBlob (Done n) outputs = HasBlob outputs
KeepsBlob other outputs = Unit {0}
