use Rattle.std.proofs.Common.{◌∙◌, arith}
use Rattle.pal_asm.proofs.NumberLemmas.{step}
use Rattle.pal_asm.proofs.numbers.digits_value.Goals as goal

pub loop-c-preserved : goal.loop-c-preserved
loop-c-preserved c = (
  omega (arith, c.next_value-value.ensures),
  step c.args.radix c.loop-c.value c.loop-c.c-index c.in_ok-digit.digit c.next_value-value.result
      c.args.digits.now
      c.requires.least (omega arith) c.in_ok-digit.ensures.value c.next_value-value.ensures
      ∙ c.loop-c.invariant.1,
)
