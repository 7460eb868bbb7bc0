use Rattle.std.proofs.Common.{rules}
use Rattle.flk_filters.proofs.run.write.Goals as goal

pub returns-in-Ok-clause-written : goal.returns-in-Ok-clause-written
returns-in-Ok-clause-written g c = search rules
