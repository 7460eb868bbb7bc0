use Rattle.slb_core.proofs.PalLemmas.{IsRest}
use Rattle.slb_core.proofs.pal.run.Given as goal

-- the plan of the rest from now is the plan of the whole from the start
abbrev pub invariant-loop-done : goal.invariant-loop-done
invariant-loop-done l = IsRest l.fn.job l.fn.budget l.done l.fn.start l.cpu l.fn.session l.session l.fn.dma l.dma
