use Rattle.std.proofs.Common.{◌≡◌, ◌<◌, ◌^◌, drop}
use Rattle.expr_text.specs.Numbers.{digits_value}
use Rattle.expr_text.proofs.numbers.digits_value.Given as goal

-- the value so far is small, and then come the digits that are left
abbrev pub invariant-loop-c : goal.invariant-loop-c
invariant-loop-c l =
    (l.value < 2 ^ 32)
    × (digits_value l.radix l.value (drop l.c-index l.digits) ≡ digits_value l.radix 0 l.digits)
