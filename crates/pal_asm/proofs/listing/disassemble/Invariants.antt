use Rattle.std.proofs.Common.{◌≤◌, ◌-◌, length}
use Rattle.pal_asm.proofs.ListingLemmas.{ListsPrefix}
use Rattle.pal_asm.proofs.listing.disassemble.Given as goal

-- the text is the listing so far
abbrev pub invariant-loop-at : goal.invariant-loop-at
invariant-loop-at l = (l.at ≤ length l.code) × ListsPrefix l.at l.code l.text.bytes.bytes

abbrev pub decreases-loop-at : goal.decreases-loop-at
decreases-loop-at l = length l.code - l.at
