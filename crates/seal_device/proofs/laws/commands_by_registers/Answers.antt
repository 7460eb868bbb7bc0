use Rattle.seal_device.proofs.Registers.{count_kept}
use Rattle.seal_device.proofs.laws.commands_by_registers.Goals as goal

pub returns-clause-count : goal.returns-clause-count
returns-clause-count g c = λ R command d count. count_kept R command d count
