use Rattle.i386_profile.proofs.Written.{chosen_is_spelling}
use Rattle.i386_profile.proofs.encoding.chosen_spells.Goals as goal

pub returns : goal.returns
returns c = chosen_is_spelling
