use Rattle.std.proofs.Common.{rules, sym, ◌∙◌}
use Rattle.tpm_state.specs.CounterFaults as tpm
use Rattle.tpm_state.specs.Counters.{read}
use Rattle.seal_device.specs.Faults.{read_fault}
use Rattle.seal_device.proofs.Counting.{refused}
use Rattle.seal_device.proofs.device.Device.read_counter.Goals as goal

pub returns-in-Err : goal.returns-in-Err
returns-in-Err c =
    let told = refused tpm.read_fault read_fault (read c.args.id c.self.inside.counters) c.in-Err.fault
    c.counter_fault.result c.counter_fault.ensures.read (sym c.in-Err.is ∙ c.read.ensures) in
    search (rules, told)
