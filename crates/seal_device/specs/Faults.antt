-- The errors of the code's calls: one for each refusal of a command, and one more where the power
-- was lost.
use Rattle.std.specs.Prelude.{Result, Ok, Err}
use Rattle.flk_base.specs.declared.fuse.PowerLost.{PowerLost}
use Rattle.seal_device.specs.Refusals.Register as registers
use Rattle.seal_device.specs.Refusals.Seed as seeds
use Rattle.seal_device.specs.Refusals.Seal as seals
use Rattle.seal_device.specs.Refusals.Unseal as unseals
use Rattle.seal_device.specs.Refusals.Quote as quotes
use Rattle.seal_device.specs.Refusals.Random as randoms
use Rattle.tpm_state.specs.Refusals.Create as creates
use Rattle.tpm_state.specs.Refusals.ReadCounter as reads
use Rattle.tpm_state.specs.Refusals.Increment as increments
use Rattle.seal_device.specs.declared.faults.Provisioned.{Provisioned}
use Rattle.seal_device.specs.declared.faults.RegisterFault.{RegisterFault}
use Rattle.seal_device.specs.declared.faults.RegisterFault.TheVariants as register_faults
use Rattle.seal_device.specs.declared.faults.SealFault.{SealFault}
use Rattle.seal_device.specs.declared.faults.SealFault.TheVariants as seal_faults
use Rattle.seal_device.specs.declared.faults.UnsealFault.{UnsealFault}
use Rattle.seal_device.specs.declared.faults.UnsealFault.TheVariants as unseal_faults
use Rattle.seal_device.specs.declared.faults.CounterFault.{CounterFault}
use Rattle.seal_device.specs.declared.faults.CounterFault.TheVariants as counter_faults
use Rattle.seal_device.specs.declared.faults.QuoteFault.{QuoteFault}
use Rattle.seal_device.specs.declared.faults.QuoteFault.TheVariants as quote_faults
use Rattle.seal_device.specs.declared.faults.RandomFault.{RandomFault}
use Rattle.seal_device.specs.declared.faults.RandomFault.TheVariants as random_faults

-- the error of a call that fails by lost power alone
abbrev pub power_lost : PowerLost
power_lost = record {}

-- the error for a refused register
abbrev pub register_fault : registers.Refusal → RegisterFault
register_fault registers.NoRegister = register_faults.NoRegister

-- what is answered to a seed: no power is lost there
abbrev pub provision_answer : Result (Unit {0}) seeds.Refusal → Result (Unit {0}) Provisioned
provision_answer (Ok done) = Ok done
provision_answer (Err seeds.Provisioned) = Err (record {})

-- the error for bytes that are not sealed
abbrev pub seal_fault : seals.Refusal → SealFault
seal_fault seals.Unprovisioned = seal_faults.Unprovisioned
seal_fault seals.TooLong = seal_faults.TooLong
seal_fault seals.NoCounter = seal_faults.NoCounter
seal_fault seals.CounterEnd = seal_faults.CounterEnd
seal_fault seals.SerialEnd = seal_faults.SerialEnd

-- the error for bytes that are not unsealed
abbrev pub unseal_fault : unseals.Refusal → UnsealFault
unseal_fault unseals.Unprovisioned = unseal_faults.Unprovisioned
unseal_fault unseals.NotBlob = unseal_faults.NotBlob
unseal_fault unseals.WrongChain = unseal_faults.WrongChain
unseal_fault unseals.WrongCounter = unseal_faults.WrongCounter

-- the error where no counter is created
abbrev pub create_fault : creates.Refusal → CounterFault
create_fault creates.Full = counter_faults.Full
create_fault creates.End = counter_faults.End

-- the error where a counter is not read
abbrev pub read_fault : reads.Refusal → CounterFault
read_fault reads.NoCounter = counter_faults.NoCounter

-- the error where a counter is not incremented
abbrev pub increment_fault : increments.Refusal → CounterFault
increment_fault increments.NoCounter = counter_faults.NoCounter
increment_fault increments.NotOwner = counter_faults.NotOwner
increment_fault increments.End = counter_faults.End

-- the error where nothing is quoted
abbrev pub quote_fault : quotes.Refusal → QuoteFault
quote_fault quotes.Unprovisioned = quote_faults.Unprovisioned

-- the error where no random word is drawn
abbrev pub random_fault : randoms.Refusal → RandomFault
random_fault randoms.Unprovisioned = random_faults.Unprovisioned
random_fault randoms.RandomEnd = random_faults.RandomEnd
