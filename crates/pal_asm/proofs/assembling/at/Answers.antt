use Rattle.std.proofs.Common.{rules}
use Rattle.pal_asm.proofs.assembling.at.Goals as goal

pub returns-in-Kind-clause-fault : goal.returns-in-Kind-clause-fault
returns-in-Kind-clause-fault c = search rules
