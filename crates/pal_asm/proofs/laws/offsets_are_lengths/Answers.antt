use Rattle.pal_asm.proofs.LawOffsets.{offsets_are_lengths}
use Rattle.pal_asm.proofs.laws.offsets_are_lengths.Goals as goal

pub returns : goal.returns
returns c = offsets_are_lengths
