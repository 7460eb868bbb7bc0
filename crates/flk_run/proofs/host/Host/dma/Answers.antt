use Rattle.flk_run.specs.declared.answers.Refusal.TheVariants.{NoBlocked}
use Rattle.flk_run.specs.Answers.{Done, Refused}
use Rattle.flk_run.specs.Parts.{host_memory}
use Rattle.flk_run.proofs.StepLemmas.{dma_done, dma_blocked}
use Rattle.flk_run.proofs.HostLemmas.{memory_steps}
use Rattle.flk_run.proofs.host.Host.dma.Goals as goal

pub returns-in-Done-clause-steps : goal.returns-in-Done-clause-steps
returns-in-Done-clause-steps c = rw (← c.host.view_is) (λ untaken variables.
    let left = dma_done c.args.at c.args.bytes.now c.host.inside.board.memory c.dev_write.new.board.memory c.host.inside.tickets.items (c.host.invariant.all untaken) c.in-Done.ensures.ended c.dev_write.ensures.written in
    memory_steps _ _ _
    (host_memory c.host.inside.board.memory c.host.inside.tickets.items) _ Done c.host.inside.armed c.host.inside.disk variables c.dev_write.ensures.device left.is)

pub returns-in-Blocked-clause-steps : goal.returns-in-Blocked-clause-steps
returns-in-Blocked-clause-steps c = rw (← c.host.view_is) (λ untaken variables.
    let left = dma_blocked c.args.at c.args.bytes.now c.host.inside.board.memory c.dev_write.new.board.memory c.host.inside.tickets.items (c.host.invariant.all untaken) c.in-Blocked.ensures.ended c.dev_write.ensures.written in
    memory_steps _ _ _ (host_memory c.host.inside.board.memory c.host.inside.tickets.items) _
    (Refused NoBlocked) c.host.inside.armed c.host.inside.disk variables c.dev_write.ensures.device left.is)
