use Rattle.pal_asm.proofs.CommaLemmas.{cut_none, cut_some}
use Rattle.pal_asm.proofs.commas.split_comma.Goals as goal

pub returns-in-None-clause-pieces : goal.returns-in-None-clause-pieces
returns-in-None-clause-pieces c =
    cut_none c.args.text.now c.split_at.result.0.now c.split_at.result.1.now c.count_before.result
    c.count_before.ensures.value c.split_at.ensures.front c.split_at.ensures.back
    c.in-None.ensures.cases

pub returns-in-Some-clause-pieces : goal.returns-in-Some-clause-pieces
returns-in-Some-clause-pieces c =
    cut_some c.args.text.now c.split_at.result.0.now c.split_at.result.1.now c.in-Some.rest.now _
    c.count_before.result
    c.count_before.ensures.value c.split_at.ensures.front c.split_at.ensures.back
    c.in-Some.ensures.cases.0
