use Rattle.std.proofs.Common.{rules, sym, ◌∙◌}
use Rattle.tpm_state.specs.CounterFaults as tpm
use Rattle.tpm_state.specs.Counters.{create}
use Rattle.seal_device.specs.Faults.{create_fault}
use Rattle.seal_device.proofs.Counting.{refused}
use Rattle.seal_device.proofs.device.Device.new_counter.Goals as goal

pub returns-in-Err : goal.returns-in-Err
returns-in-Err c =
    let told = refused tpm.create_fault create_fault
    (create c.present_value-present.result c.self.inside.counters).1 c.in-Err.fault
    c.counter_fault.result c.counter_fault.ensures.create
    (sym c.in-Err.is ∙ c.create-created.ensures.answer) in
    search (rules, told)
