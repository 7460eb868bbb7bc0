use Rattle.pal_asm.proofs.LawShort.{listing_is_short}
use Rattle.pal_asm.proofs.laws.listing_is_short.Goals as goal

pub returns : goal.returns
returns c = listing_is_short
