use Rattle.pal_asm.proofs.LawEachListed.{each_listed}
use Rattle.pal_asm.proofs.laws.each_is_listed.Goals as goal

pub returns : goal.returns
returns c = each_listed
