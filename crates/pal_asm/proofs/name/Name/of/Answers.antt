use Rattle.pal_asm.proofs.NameLemmas.{held}
use Rattle.pal_asm.proofs.name.Name.of.Goals as goal

pub invariant_of-result : goal.invariant_of-result
invariant_of-result c =
    held c.args.word.now c.copy_from_slice.new.self c.copy_from_slice.ensures.after
