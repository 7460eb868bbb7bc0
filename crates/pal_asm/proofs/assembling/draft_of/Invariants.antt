use Rattle.std.proofs.Common.{◌≡◌}
use Rattle.pal_asm.specs.Lines.{lines}
use Rattle.pal_asm.specs.Assembling.{Draft, no_lines, AreBlank, draft_of}
use Rattle.pal_asm.specs.SeenDraft.{Stands}
use Rattle.pal_asm.proofs.AssembleLemmas.{continued, IsNumbered, lines_left, BeginsWell, left}
use Rattle.pal_asm.proofs.assembling.draft_of.Given as goal

-- the lines that are left, after those so far, give what all of them give, and are blank where all
-- of them are
abbrev pub invariant-lines : goal.invariant-lines
invariant-lines l =
    IsNumbered l.number l.rest
    × ((before : Draft) × Stands l.draft before
    × (continued l.number before l.rest ≡ draft_of 1 no_lines (lines l.text)))
    × (AreBlank (lines l.text) → AreBlank (lines_left l.rest))
    × (BeginsWell (lines_left l.rest) → BeginsWell (lines l.text))

abbrev pub decreases-lines : goal.decreases-lines
decreases-lines l = left l.rest
