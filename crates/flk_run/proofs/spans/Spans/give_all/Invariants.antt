use Rattle.std.proofs.Common.{◌≡◌}
use Rattle.flk_run.specs.Parts.{HoldsSpans, KeepsDevice}
use Rattle.flk_run.specs.Taking.{after_give_all}
use Rattle.flk_run.proofs.spans.Spans.give_all.Given as goal

-- what is left to give is held, and leads to the same memory
abbrev pub invariant-loop-ticket : goal.invariant-loop-ticket
invariant-loop-ticket l = record {
  held : HoldsSpans l.board.memory.marks l.tickets.items;
  given : after_give_all l.board.memory l.tickets.items
      ≡ after_give_all l.initial.board.memory l.initial.tickets.items;
  device : KeepsDevice l.initial.board l.board;
}

abbrev pub decreases-loop-ticket : goal.decreases-loop-ticket
decreases-loop-ticket l = goal.left-loop-ticket l
