use Rattle.flk_run.proofs.StepLemmas.{new_host}
use Rattle.flk_run.proofs.host.Host.new.Goals as goal

pub invariant_of-result : goal.invariant_of-result
invariant_of-result c =
    rw (c.of-found.ensures, c.new.ensures.items, ← c.board.view_is)
    (new_host c.board.inside.memory c.frame_law.ensures)
