use Rattle.std.proofs.Common.{◌≡◌, ℕ, List, get_or, sym, ap, ◌∙◌, Some, slice_get}
use Rattle.std.specs.Prelude.{position}
use Rattle.std.proofs.lemmas.List.Quantifiers.{position-Some}
use Rattle.std.proofs.lemmas.Option.{slice_get-get_or}
use Rattle.region_pool.specs.Spans.{Span}
use Rattle.flk_run.specs.declared.answers.Refusal.TheVariants.{NoSpan}
use Rattle.flk_run.specs.Answers.{Done, Refused}
use Rattle.flk_run.proofs.TicketLemmas.{starts, holds_removed}
use Rattle.flk_run.specs.Parts.{host_memory}
use Rattle.flk_run.proofs.StepLemmas.{give_done, give_missing}
use Rattle.flk_run.proofs.HostLemmas.{memory_steps, kept}
use Rattle.flk_run.proofs.host.Host.give.Goals as goal

-- what was taken out of the list stood there
stood : (spans : List Span) (at i : ℕ) (t : Span) → position (starts at) spans ≡ Some i
    → t ≡ get_or spans i t → slice_get spans i ≡ Some t
stood spans at i t found value =
    slice_get-get_or spans i t (position-Some (starts at) spans i t found).0 ∙ ap Some (sym value)

pub invariant_of-host : goal.invariant_of-host
invariant_of-host c =
    let m = c.host.inside.board.memory in
    let spans = c.host.inside.tickets.items in
    let at_index : position (starts c.args.at) spans
    ≡ Some c.in-Some.index = sym (rw c.deref.ensures.value at c.in-Some.ensures) in
    let there = stood spans c.args.at c.in-Some.index c.remove-ticket.result at_index c.remove-ticket.ensures.value in
    rw c.remove-ticket.ensures.items (record {
      held = holds_removed m.marks c.give.new.board.memory.marks spans c.in-Some.index c.remove-ticket.result there c.give.ensures.others c.host.invariant.held;
      all = λ untaken.
          (give_done c.args.at c.in-Some.index m c.give.new.board.memory spans c.remove-ticket.result
          (c.host.invariant.all untaken) there at_index c.give.ensures.given c.give.ensures.others).all;
    })

pub returns-in-Some-clause-steps : goal.returns-in-Some-clause-steps
returns-in-Some-clause-steps c =
    let spans = c.host.inside.tickets.items in
    let at_index : position (starts c.args.at) spans
    ≡ Some c.in-Some.index = sym (rw c.deref.ensures.value at c.in-Some.ensures) in
    let there = stood spans c.args.at c.in-Some.index c.remove-ticket.result at_index c.remove-ticket.ensures.value in
    rw (← c.host.view_is) (λ untaken variables.
    let left = give_done c.args.at c.in-Some.index c.host.inside.board.memory c.give.new.board.memory spans c.remove-ticket.result (c.host.invariant.all untaken)
    there at_index c.give.ensures.given c.give.ensures.others in
    memory_steps _ _ _
    (host_memory c.host.inside.board.memory spans) _ Done c.host.inside.armed c.host.inside.disk variables c.give.ensures.device
    (rw c.remove-ticket.ensures.items left.is))

pub returns-in-None-clause-steps : goal.returns-in-None-clause-steps
returns-in-None-clause-steps c = rw (← c.host.view_is) (λ untaken variables.
    let left = give_missing c.args.at c.host.inside.board.memory c.host.inside.tickets.items
    (c.host.invariant.all untaken) (sym (rw c.deref.ensures.value at c.in-None.ensures)) in
    memory_steps _ _ _ (host_memory c.host.inside.board.memory c.host.inside.tickets.items) _
    (Refused NoSpan) c.host.inside.armed c.host.inside.disk variables (kept c.host.inside.board) left.is)
