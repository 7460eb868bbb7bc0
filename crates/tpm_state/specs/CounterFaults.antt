-- The errors of the calls on counters: one for each refusal.
use Rattle.std.specs.Prelude.{ℕ, Result, Ok, Err}
use Rattle.tpm_state.specs.Refusals.Create as creates
use Rattle.tpm_state.specs.Refusals.ReadCounter as reads
use Rattle.tpm_state.specs.Refusals.Increment as increments
use Rattle.tpm_state.specs.declared.counters.CounterFault.{CounterFault}
use Rattle.tpm_state.specs.declared.counters.CounterFault.TheVariants as faults

-- the error where no counter is created
abbrev pub create_fault : creates.Refusal → CounterFault
create_fault creates.Full = faults.Full
create_fault creates.End = faults.End

-- the error where a counter is not read
abbrev pub read_fault : reads.Refusal → CounterFault
read_fault reads.NoCounter = faults.NoCounter

-- the error where a counter is not incremented
abbrev pub increment_fault : increments.Refusal → CounterFault
increment_fault increments.NoCounter = faults.NoCounter
increment_fault increments.NotOwner = faults.NotOwner
increment_fault increments.End = faults.End

-- a number, or the error for a refusal
abbrev pub answer : {E : Type 0} → (E → CounterFault) → Result ℕ E → Result ℕ CounterFault
answer fault (Ok n) = Ok n
answer fault (Err refusal) = Err (fault refusal)
