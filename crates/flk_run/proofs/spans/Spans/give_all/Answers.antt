use Rattle.std.proofs.Common.{◌≡◌, List, [], ◌∷◌, ◌++◌, sym, ap, subst, ◌∙◌}
use Rattle.region_pool.specs.Spans.{Span}
use Rattle.machine_memory.specs.Contents.{Contents}
use Rattle.flk_run.specs.Parts.{HoldsSpans}
use Rattle.flk_run.specs.Taking.{after_give_all}
use Rattle.flk_run.proofs.TicketLemmas.{holds_front, given_last}
use Rattle.flk_run.proofs.spans.Spans.give_all.Goals as goal

pub loop-ticket-preserved : goal.loop-ticket-preserved
loop-ticket-preserved c =
    let marks = c.loop-ticket.board.memory.marks in
    let left = c.pop.new.self.items in
    let items : c.loop-ticket.tickets.items
    ≡ left ++ c.in-Some.ticket ∷ [] = c.in-Some.ensures.items in
    let held = subst
    (λ (spans : List Span). HoldsSpans marks spans) items c.loop-ticket.invariant.held in
    record {
      held = holds_front marks c.give.new.board.memory.marks left c.in-Some.ticket c.give.ensures.others held;
      given = ap (λ (m : Contents). after_give_all m left) c.give.ensures.given
          ∙ sym (given_last c.loop-ticket.board.memory left c.in-Some.ticket)
          ∙ sym (ap (after_give_all c.loop-ticket.board.memory) items)
          ∙ c.loop-ticket.invariant.given;
      device = record {
        device = c.give.ensures.device.device ∙ c.loop-ticket.invariant.device.device;
        registers = c.give.ensures.device.registers ∙ c.loop-ticket.invariant.device.registers;
        fuse = c.give.ensures.device.fuse ∙ c.loop-ticket.invariant.device.fuse;
      };
    }
