use Rattle.pal_asm.proofs.StatementLemmas.{not_alone, alone}
use Rattle.pal_asm.specs.Tokens.{tokens}
use Rattle.pal_asm.specs.SeenStatements.{pieces}
use Rattle.pal_asm.proofs.statement.sole_operand.Goals as goal

pub returns-in-None : goal.returns-in-None
returns-in-None c =
    let e = rw c.in-None.is at c.split_comma.ensures.pieces in
    alone (pieces c.args.text.now) (tokens c.split_comma.result.0.now) c.operand_of.result e
    c.operand_of.ensures

pub returns-in-Some : goal.returns-in-Some
returns-in-Some c =
    let e = rw c.in-Some.is at c.split_comma.ensures.pieces in
    not_alone (pieces c.args.text.now) (tokens c.split_comma.result.0.now)
    (tokens c.in-Some.field-0.now) e
