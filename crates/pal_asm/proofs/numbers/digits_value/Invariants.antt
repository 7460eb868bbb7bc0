use Rattle.std.proofs.Common.{◌≡◌, ◌≤◌, ◌^◌, drop}
use Rattle.std.specs.Prelude.{option_map}
use Rattle.pal_asm.specs.Numbers.{digits_value}
use Rattle.pal_asm.specs.Seen.{read_as}
use Rattle.pal_asm.proofs.numbers.digits_value.Given as goal

-- the value so far is read so, and then come the digits that are left
abbrev pub invariant-loop-c : goal.invariant-loop-c
invariant-loop-c l =
    (l.value ≤ 2 ^ 33)
    × (option_map read_as (digits_value l.radix l.value (drop l.c-index l.digits))
    ≡ option_map read_as (digits_value l.radix 0 l.digits))
