use Rattle.flk_run.specs.declared.answers.Refusal.TheVariants.{NoTaken}
use Rattle.flk_run.specs.Answers.{Done, Refused}
use Rattle.flk_run.specs.Parts.{host_memory}
use Rattle.flk_run.proofs.StepLemmas.{poke_done, poke_refused}
use Rattle.flk_run.proofs.HostLemmas.{memory_steps, kept}
use Rattle.flk_run.proofs.host.Host.poke.Goals as goal

pub returns-in-Ok-clause-steps : goal.returns-in-Ok-clause-steps
returns-in-Ok-clause-steps c = rw (← c.host.view_is) (λ untaken variables.
    let left = poke_done c.args.at c.args.bytes.now c.host.inside.board.memory c.host_write.new.board.memory c.host.inside.tickets.items (c.host.invariant.all untaken) c.in-Ok.ensures.taken c.in-Ok.ensures.written in
    memory_steps _ _ _
    (host_memory c.host.inside.board.memory c.host.inside.tickets.items) _ Done c.host.inside.armed c.host.inside.disk variables c.host_write.ensures.device left.is)

pub returns-in-Err-clause-steps : goal.returns-in-Err-clause-steps
returns-in-Err-clause-steps c =
    rw (← c.host.view_is, c.in-Err.ensures.err) (λ untaken variables.
    let left = poke_refused c.args.at c.args.bytes.now c.host.inside.board.memory c.host.inside.tickets.items (c.host.invariant.all untaken) c.in-Err.ensures.taken in
    memory_steps _ _ _ (host_memory c.host.inside.board.memory c.host.inside.tickets.items) _
    (Refused NoTaken) c.host.inside.armed c.host.inside.disk variables (kept c.host.inside.board) left.is)
