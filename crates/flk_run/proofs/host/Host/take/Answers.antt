use Rattle.std.proofs.Common.{arith, ap}
use Rattle.std.specs.Prelude.{Err}
use Rattle.flk_run.specs.declared.answers.Refusal.TheVariants.{NoRoom}
use Rattle.flk_run.specs.Answers.{Refused}
use Rattle.flk_run.specs.Parts.{host_memory}
use Rattle.flk_run.proofs.TicketLemmas.{holds_more}
use Rattle.flk_run.proofs.StepLemmas.{take_done, take_missing}
use Rattle.flk_run.proofs.HostLemmas.{memory_steps, kept}
use Rattle.flk_run.proofs.host.Host.take.Goals as goal

pub invariant_of-host : goal.invariant_of-host
invariant_of-host c = rw c.keep.ensures (record {
  held = holds_more c.args.frames c.host.inside.board.memory c.take.new.board.memory c.host.inside.tickets.items c.in-Ok.ticket c.in-Ok.ensures.took c.host.invariant.held;
  all = λ untaken.
      (take_done c.args.frames c.host.inside.board.memory c.take.new.board.memory c.host.inside.tickets.items c.in-Ok.ticket (c.host.invariant.all untaken) (omega arith) c.in-Ok.ensures.took).all;
})

pub returns-in-Ok-clause-steps : goal.returns-in-Ok-clause-steps
returns-in-Ok-clause-steps c = rw (← c.host.view_is) (λ untaken variables.
    let left = take_done c.args.frames c.host.inside.board.memory c.take.new.board.memory c.host.inside.tickets.items c.in-Ok.ticket (c.host.invariant.all untaken) (omega arith) c.in-Ok.ensures.took in
    memory_steps _ _ _
    (host_memory c.host.inside.board.memory c.host.inside.tickets.items) _ _ c.host.inside.armed c.host.inside.disk variables c.take.ensures.device (rw (c.keep.ensures, c.first.ensures) left.is))

pub returns-in-Err-NoRoom-clause-steps : goal.returns-in-Err-NoRoom-clause-steps
returns-in-Err-NoRoom-clause-steps c =
    rw (← c.host.view_is, c.in-Err-NoRoom.ensures.err) (λ untaken variables.
    let left = take_missing c.args.frames c.host.inside.board.memory c.host.inside.tickets.items
    (c.host.invariant.all untaken) (omega arith) (c.in-Err-NoRoom.ensures.refused (ap Err c.in-Err-NoRoom.field-0-is)) in
    memory_steps _ _ _ (host_memory c.host.inside.board.memory c.host.inside.tickets.items) _
    (Refused NoRoom) c.host.inside.armed c.host.inside.disk variables (kept c.host.inside.board) left.is)
