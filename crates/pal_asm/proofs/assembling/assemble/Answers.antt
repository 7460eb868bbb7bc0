use Rattle.std.proofs.Common.{ap, arith}
use Rattle.flk_base.specs.Checks.{◌>>=◌}
use Rattle.pal_asm.specs.Lines.{lines}
use Rattle.pal_asm.specs.Assembling.{no_lines, code_with}
use Rattle.pal_asm.proofs.AssembleLemmas.{if_code, if_fault, none_placed}
use Rattle.pal_asm.proofs.assembling.assemble.Goals as goal

pub returns-clause-code : goal.returns-clause-code
returns-clause-code c =
    let h = c.in_ok-draft.ensures.drafted in
    if_code c.finish.result _ _ (ap (λ r. r >>= λ draft. code_with draft.labels draft.placed) h.1)
    (c.finish.ensures.code h.0 h.2)

pub returns-clause-fault : goal.returns-clause-fault
returns-clause-fault c =
    let h = c.in_ok-draft.ensures.drafted in
    if_fault c.finish.result _ _ (ap (λ r. r >>= λ draft. code_with draft.labels draft.placed) h.1)
    (c.finish.ensures.code h.0 h.2)

pub returns-clause-blank : goal.returns-clause-blank
returns-clause-blank c = λ b.
    let h = c.in_ok-draft.ensures.drafted in
    c.finish.ensures.blank h.0 h.2 (none_placed 1 no_lines h.0 (lines c.args.text.now)
    (omega arith) b h.1)
