use Rattle.pal_asm.proofs.LawOneListing.{one_listing}
use Rattle.pal_asm.proofs.laws.one_listing.Goals as goal

pub returns : goal.returns
returns c = one_listing
