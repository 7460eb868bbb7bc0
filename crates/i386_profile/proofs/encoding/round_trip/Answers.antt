use Rattle.i386_profile.proofs.Written.{comes_back}
use Rattle.i386_profile.proofs.encoding.round_trip.Goals as goal

pub returns : goal.returns
returns c = comes_back
