use Rattle.std.proofs.Common.{◌≡◌, sym, ap, ◌∙◌, ◌<◌, ◌≤◌, ◌^◌, ◌+◌, ◌*◌, drop, arith}
use Rattle.std.specs.Prelude.{option_and_then}
use Rattle.expr_text.specs.Numbers.{if_in_range}
use Rattle.expr_text.proofs.NumberLemmas.{next_fits, fits, too_large, step, at_end}
use Rattle.expr_text.proofs.numbers.digits_value.Goals as goal

pub overflow_add-next : goal.overflow_add-next
overflow_add-next c =
    let v : c.from.result < 2 ^ 32 = omega arith in
    let r : c.from-in-loop-c.result ≤ 16 = omega arith in
    let d : c.from-in-loop-c-2.result < 2 ^ 32 = omega (arith, c.in_ok-digit.ensures.small) in
    omega (arith, next_fits _ _ _ v r d)

pub overflow_mul-next : goal.overflow_mul-next
overflow_mul-next c =
    let v : c.from.result < 2 ^ 32 = omega arith in
    let r : c.from-in-loop-c.result ≤ 16 = omega arith in
    omega (arith, next_fits _ _ 0 v r (omega arith))

pub returns-then-next-gt-LIMIT : goal.returns-then-next-gt-LIMIT
returns-then-next-gt-LIMIT c =
    let value = c.loop-c.value * c.args.radix + c.in_ok-digit.digit in
    let same : c.from.result * c.from-in-loop-c.result ≡ c.loop-c.value * c.args.radix = cc in
    let large : 2 ^ 32 ≤ value = omega (arith, same) in
    sym (ap (option_and_then if_in_range)
    (sym c.loop-c.invariant.1
    ∙ step c.args.radix c.loop-c.value c.loop-c.c-index c.in_ok-digit.digit c.args.digits.now
    (omega arith) c.in_ok-digit.ensures.value)
    ∙ too_large c.args.radix value (drop
    (c.loop-c.c-index + 1) c.args.digits.now) c.requires.least large)

pub returns : goal.returns
returns c =
    fits c.loop-c.value c.loop-c.invariant.0
    ∙ ap (option_and_then if_in_range)
    (sym (at_end c.args.radix c.loop-c.value c.loop-c.c-index c.args.digits.now (omega arith))
    ∙ c.loop-c.invariant.1)
