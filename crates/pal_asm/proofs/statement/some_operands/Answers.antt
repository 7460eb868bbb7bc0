use Rattle.std.proofs.Common.{[], ◌∷◌}
use Rattle.pal_asm.proofs.StatementLemmas.{alone_none, alone_some, first_none, later_none, first_some}
use Rattle.pal_asm.specs.Tokens.{tokens}
use Rattle.pal_asm.specs.SeenStatements.{pieces}
use Rattle.pal_asm.proofs.statement.some_operands.Goals as goal

pub returns-in_err-operand_of-in-None : goal.returns-in_err-operand_of-in-None
returns-in_err-operand_of-in-None c =
    let e = rw c.in-None.is at c.split_comma.ensures.pieces in
    let h = c.in_err-operand_of-in-None.ensures in
    rw c.from_residual.ensures (alone_none 2 (pieces c.args.text.now)
    (tokens c.split_comma.result.0.now) e h)

pub returns-in_ok-operand_of-in-None : goal.returns-in_ok-operand_of-in-None
returns-in_ok-operand_of-in-None c =
    let e = rw c.in-None.is at c.split_comma.ensures.pieces in
    alone_some (pieces c.args.text.now) (tokens c.split_comma.result.0.now) _ e
    c.in_ok-operand_of-in-None.ensures

pub returns-in_err-a-in-Some : goal.returns-in_err-a-in-Some
returns-in_err-a-in-Some c =
    let e = rw c.in-Some.is at c.split_comma.ensures.pieces in
    let h = c.in_err-a-in-Some.ensures in
    rw c.from_residual-in_err-a-in-Some.ensures
    (first_none 2 (pieces c.args.text.now) (pieces c.in-Some.rest.now)
    (tokens c.split_comma.result.0.now) e h)

pub returns-in_err-sole_operand-in-Some : goal.returns-in_err-sole_operand-in-Some
returns-in_err-sole_operand-in-Some c =
    let e = rw c.in-Some.is at c.split_comma.ensures.pieces in
    rw c.from_residual-in_err-sole_operand-in-Some.ensures
    (later_none (pieces c.args.text.now) (pieces c.in-Some.rest.now)
    (tokens c.split_comma.result.0.now) e c.in_err-sole_operand-in-Some.ensures)

pub returns-in_ok-sole_operand-in-Some : goal.returns-in_ok-sole_operand-in-Some
returns-in_ok-sole_operand-in-Some c =
    let e = rw c.in-Some.is at c.split_comma.ensures.pieces in
    first_some (pieces c.args.text.now) (pieces c.in-Some.rest.now)
    (tokens c.split_comma.result.0.now) c.in_ok-a-in-Some.a
    (c.in_ok-sole_operand-in-Some.field-0 ∷ []) e
    c.in_ok-a-in-Some.ensures c.in_ok-sole_operand-in-Some.ensures
