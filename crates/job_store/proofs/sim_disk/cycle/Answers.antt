use Rattle.std.proofs.Common.{arith}
use Rattle.std.proofs.lemmas.List.FromFn.{fill_by_all}
use Rattle.job_store.proofs.sim_disk.cycle.Goals as goal

pub returns : goal.returns
returns c =
    fill_by_all _ c.loop-place.stable _ 0 (omega arith)
    (λ k h. c.loop-place.invariant.cycled k (omega arith))
