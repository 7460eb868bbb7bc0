-- Operands as the code reads them.
use Rattle.std.proofs.Common.{◌≡◌, ap}
use Rattle.std.specs.Prelude.{Option, Some, None, option_map}
use Rattle.pal_asm.specs.declared.operand.Place.{Place}
use Rattle.pal_asm.specs.declared.operand.Operand.{Operand}
use Rattle.pal_asm.specs.declared.operand.Operand.TheVariants.{Memory}
use Rattle.pal_asm.specs.Seen.{place_as, operand_as}

pub memory_as : (x : Place) (p : Option Place) → Some x ≡ option_map place_as p
    → Some (Memory x) ≡ option_map operand_as (option_map Memory p)
memory_as x None h = cc
memory_as x (Some q) h = let same : x ≡ place_as q = cc in ap (λ y. Some (Memory y)) same

pub no_memory : (o : Option Operand) (p : Option Place) → o ≡ None → None ≡ option_map place_as p
    → o ≡ option_map operand_as (option_map Memory p)
no_memory o None e h = e
no_memory o (Some q) e h = cc
