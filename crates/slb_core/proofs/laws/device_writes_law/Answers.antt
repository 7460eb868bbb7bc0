use Rattle.seal_device.specs.Commands.{costs}
use Rattle.slb_core.proofs.WriteLemmas.{EndsSo, only_fused, serving_only}
use Rattle.slb_core.proofs.laws.device_writes_law.Goals as goal

pub returns : goal.returns
returns g c = λ device before setting count nonce writes.
    only_fused costs device (EndsSo setting.permits setting.bytes writes) _ before (serving_only setting count nonce writes)
