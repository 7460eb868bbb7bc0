use Rattle.pal_asm.proofs.LineLemmas.{last_line, first_line}
use Rattle.pal_asm.proofs.lines.split_line.Goals as goal

pub returns-in-None-clause-lines : goal.returns-in-None-clause-lines
returns-in-None-clause-lines c =
    last_line c.args.text.now c.split_at.result.0.now c.split_at.result.1.now c.count_before.result
    c.count_before.ensures.value c.split_at.ensures.front c.split_at.ensures.back
    c.in-None.ensures.cases

pub returns-in-Some-clause-lines : goal.returns-in-Some-clause-lines
returns-in-Some-clause-lines c =
    first_line c.args.text.now c.split_at.result.0.now c.split_at.result.1.now c.in-Some.rest.now _
    c.count_before.result
    c.count_before.ensures.value c.split_at.ensures.front c.split_at.ensures.back
    c.in-Some.ensures.cases.0
