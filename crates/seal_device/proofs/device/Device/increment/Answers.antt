use Rattle.std.proofs.Common.{rules, sym, ◌∙◌}
use Rattle.std.specs.Prelude.{bytes_eq}
use Rattle.tpm_state.specs.CounterFaults as tpm
use Rattle.tpm_state.specs.Counters.{increment}
use Rattle.seal_device.specs.Faults.{increment_fault}
use Rattle.seal_device.proofs.Counting.{refused}
use Rattle.seal_device.proofs.device.Device.increment.Goals as goal

pub returns-in-Err : goal.returns-in-Err
returns-in-Err c =
    let told = refused tpm.increment_fault increment_fault
    (increment bytes_eq c.args.id c.present_value-present.result c.self.inside.counters).1
    c.in-Err.fault c.counter_fault.result c.counter_fault.ensures.increment
    (sym c.in-Err.is ∙ c.increment-incremented.ensures.answer) in
    search (rules, told)
