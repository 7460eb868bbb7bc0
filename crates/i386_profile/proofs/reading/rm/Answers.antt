use Rattle.std.proofs.Common.{rules}
use Rattle.i386_profile.specs.Reading.{rm_at}
use Rattle.i386_profile.proofs.reading.rm.Goals as goal

pub returns-else-sib-ne36 : goal.returns-else-sib-ne36
unfolding rm_at
returns-else-sib-ne36 c = search rules
