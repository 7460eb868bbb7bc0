use Rattle.machine_memory.proofs.DmaLemmas.{IsRun}
use Rattle.machine_memory.proofs.dma.Dma.run.Given as goal

abbrev pub invariant-loop-write : goal.invariant-loop-write
invariant-loop-write l =
    IsRun l.turn l.initial.memory l.initial.write-items l.write-index l.memory l.write-items
