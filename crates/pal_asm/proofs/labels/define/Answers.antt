use Rattle.pal_asm.proofs.LabelLemmas.{defined}
use Rattle.pal_asm.proofs.labels.define.Goals as goal

pub returns-in-Ok : goal.returns-in-Ok
returns-in-Ok c =
    λ ls h d. defined c.args.labels.now c.insert.new.self c.args.label c.in-Some.name c.args.at ls
    c.in-Some.is c.in-Ok.ensures.updates.0 h d
