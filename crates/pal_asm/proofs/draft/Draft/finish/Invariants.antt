use Rattle.std.proofs.Common.{◌≡◌, drop}
use Rattle.pal_asm.specs.Assembling.{Draft, code_with}
use Rattle.pal_asm.specs.SeenDraft.{Stands}
use Rattle.pal_asm.proofs.DraftLemmas.{with_code}
use Rattle.pal_asm.proofs.draft.Draft.finish.Given as goal

-- the code so far, before that of the statements that are left
abbrev pub invariant-loop-placed : goal.invariant-loop-placed
invariant-loop-placed l =
    (lines : Draft) → Stands l.self lines
    → code_with lines.labels lines.placed
    ≡ with_code l.code.bytes (code_with lines.labels (drop l.placed-index lines.placed))
