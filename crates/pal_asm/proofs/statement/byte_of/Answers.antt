use Rattle.std.proofs.Common.{◌∙◌}
use Rattle.pal_asm.specs.Tokens.{tokens}
use Rattle.pal_asm.specs.Operands.{operand_of}
use Rattle.pal_asm.proofs.ByteLemmas.{read_byte, no_byte}
use Rattle.pal_asm.proofs.statement.byte_of.Goals as goal

pub returns-in-Some : goal.returns-in-Some
returns-in-Some c = c.operand_byte.ensures
    ∙ read_byte (operand_of (tokens c.args.piece.now)) c.in-Some.operand c.in-Some.ensures

pub returns-in-None : goal.returns-in-None
returns-in-None c = no_byte (operand_of (tokens c.args.piece.now)) c.in-None.ensures
