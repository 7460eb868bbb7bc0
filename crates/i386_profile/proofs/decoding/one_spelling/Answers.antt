use Rattle.i386_profile.proofs.Decoded.{only_one}
use Rattle.i386_profile.proofs.decoding.one_spelling.Goals as goal

pub returns : goal.returns
returns c = only_one
