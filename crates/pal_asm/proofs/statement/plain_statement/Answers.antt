use Rattle.std.proofs.Common.{sym, ◌∙◌}
use Rattle.pal_asm.specs.Tokens.{tokens}
use Rattle.pal_asm.specs.SeenStatements.{statement_view, operand_list}
use Rattle.pal_asm.proofs.StatementLemmas.{no_operands, no_form, formed, outside}
use Rattle.pal_asm.proofs.statement.plain_statement.Goals as goal

pub returns-in_default : goal.returns-in_default
returns-in_default c =
    no_operands c.args.mnemonic (tokens c.args.text.now) c.requires c.in_default.ensures

pub returns-in_default-statement_of : goal.returns-in_default-statement_of
returns-in_default-statement_of c =
    no_form c.args.mnemonic (tokens c.args.text.now) (operand_list c.in-Some.operands) c.requires
    c.in-Some.ensures c.in_default-statement_of.ensures

pub returns-then-fits : goal.returns-then-fits
returns-then-fits c =
    formed c.args.mnemonic (tokens c.args.text.now) (operand_list c.in-Some.operands)
    (statement_view c.in-Some-statement_of.statement) c.in-Some.ensures
    c.in-Some-statement_of.ensures
    (sym c.are_in_range-fits.ensures ∙ c.if-fits.true)

pub returns-else-fits : goal.returns-else-fits
returns-else-fits c =
    outside c.args.mnemonic (tokens c.args.text.now) (operand_list c.in-Some.operands)
    (statement_view c.in-Some-statement_of.statement) c.requires c.in-Some.ensures
    c.in-Some-statement_of.ensures
    (sym c.are_in_range-fits.ensures ∙ c.if-fits.false)
