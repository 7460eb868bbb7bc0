use Rattle.region_pool.proofs.PlaceLemmas.{place-cases}
use Rattle.region_pool.proofs.place.place_law.Goals as goal

pub returns : goal.returns
returns c = place-cases
