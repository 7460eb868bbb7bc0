use Rattle.pal_asm.proofs.LawAssembles.{listing_assembles}
use Rattle.pal_asm.proofs.laws.listing_assembles.Goals as goal

pub returns : goal.returns
returns c = listing_assembles
