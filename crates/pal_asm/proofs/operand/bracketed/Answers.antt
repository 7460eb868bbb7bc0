use Rattle.pal_asm.specs.Tokens.{tokens}
use Rattle.pal_asm.specs.Operands.{place_of}
use Rattle.pal_asm.proofs.OperandLemmas.{memory_as, no_memory}
use Rattle.pal_asm.proofs.operand.bracketed.Goals as goal

pub returns-in_err-place_of : goal.returns-in_err-place_of
returns-in_err-place_of c =
    no_memory c.from_residual.result (place_of (tokens c.args.text.now)) c.from_residual.ensures
    c.in_err-place_of.ensures

pub returns : goal.returns
returns c =
    memory_as c.in_ok-place_of.field-0 (place_of (tokens c.args.text.now)) c.in_ok-place_of.ensures
