use Rattle.std.proofs.Common.{◌≡◌, ℕ, List, true, []}
use Rattle.pal_asm.specs.SeenStatements.{pieces}
use Rattle.pal_asm.proofs.ByteLemmas.{bytes_from, rest_of, Kept, left}
use Rattle.pal_asm.proofs.statement.bytes_of.Given as goal

-- the pieces that are left give what all of them give, after the bytes so far
abbrev pub invariant-pieces : goal.invariant-pieces
invariant-pieces l =
    (out : List ℕ) × (bytes_from (rest_of l.rest) l.are_in_range out
    ≡ bytes_from (pieces l.text) true []) × Kept out l.is_room l.bytes.bytes

abbrev pub decreases-pieces : goal.decreases-pieces
decreases-pieces l = left l.rest
