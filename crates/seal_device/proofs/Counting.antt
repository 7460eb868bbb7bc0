-- The device's errors for those of its counters.
use Rattle.std.proofs.Common.{◌≡◌, ℕ, ap}
use Rattle.std.specs.Prelude.{Result, Ok, Err, Some}
use Rattle.flk_base.specs.Stop.{reported}
use Rattle.tpm_state.specs.CounterFaults as tpm
use Rattle.tpm_state.specs.declared.counters.CounterFault.{CounterFault as BankFault}
use Rattle.seal_device.specs.declared.faults.CounterFault.{CounterFault}
use Rattle.seal_device.specs.declared.faults.CounterFault.TheVariants as counter_faults

-- an error of the counters, where a refusal has one there and one here
pub refused : {E : Type 0} (there : E → BankFault) (here : E → CounterFault) (r : Result ℕ E)
    (fault : BankFault) (mine : CounterFault) →
    ((refusal : E) → fault ≡ there refusal → mine ≡ here refusal) →
    Err fault ≡ tpm.answer there r → Err mine ≡ reported here counter_faults.PowerLost (Some r)
refused there here (Ok n) fault mine each is = absurd (cc)
refused there here (Err refusal) fault mine each is =
    let same : fault ≡ there refusal = cc in
    ap (λ (x : CounterFault). let end : Result ℕ CounterFault = Err x in end) (each refusal same)
