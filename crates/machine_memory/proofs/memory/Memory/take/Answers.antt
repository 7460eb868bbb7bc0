use Rattle.std.proofs.Common.{◌≡◌, ◌≤◌, ℕ, replicate, ap, sym, ◌∙◌}
use Rattle.region_pool.specs.Places.{IsPlace}
use Rattle.machine_memory.specs.Contents.{Contents, IsMemory, first_byte}
use Rattle.machine_memory.specs.Spans.{bytes_of}
use Rattle.machine_memory.proofs.MemoryLemmas.{zero-after_take}
use Rattle.machine_memory.proofs.BlockChanges.{zeros_of}
use Rattle.machine_memory.proofs.InBlocks.{in-take, contents-take}
use Rattle.machine_memory.proofs.memory.Memory.take.Goals as goal

pub invariant_of-self : goal.invariant_of-self
invariant_of-self c =
    let ticket = c.in-Ok-take.ticket in
    let took = c.in-Ok-take.ensures in
    let some : 1 ≤ ticket.frames = rw took.frames c.requires.some in
    let place : IsPlace c.self.inside.pool ticket.frames c.args.align ticket.first =
    rw took.frames took.lowest.place in
    let block : c.in-Ok.block ≡ zeros_of ticket =
    c.in-Ok.ensures ∙ ap (λ (n : ℕ). replicate (first_byte n) 0) (sym took.frames) in
    rw (block, c.exclude_at.ensures, took.marked, c.first-first.ensures, ← took.frames)
    (in-take c.self.inside.pool c.self.inside.excluded.items c.self.inside.blocks.items ticket
    c.args.align c.self.invariant some place)

pub returns-in-Ok-take-clause-taken : goal.returns-in-Ok-take-clause-taken
returns-in-Ok-take-clause-taken c =
    let ticket = c.in-Ok-take.ticket in
    let took = c.in-Ok-take.ensures in
    let some : 1 ≤ ticket.frames = rw took.frames c.requires.some in
    let place : IsPlace c.self.inside.pool ticket.frames c.args.align ticket.first =
    rw took.frames took.lowest.place in
    let block : c.in-Ok.block ≡ zeros_of ticket =
    c.in-Ok.ensures ∙ ap (λ (n : ℕ). replicate (first_byte n) 0) (sym took.frames) in
    rw (
      ← c.self.view_is,
      block,
      c.exclude_at.ensures,
      took.marked,
      c.first-first.ensures,
      ← took.frames,
    ) (contents-take c.self.inside.pool c.self.inside.excluded.items c.self.inside.blocks.items
    ticket c.args.align c.self.invariant some place)

pub returns-in-Ok-take-clause-zero : goal.returns-in-Ok-take-clause-zero
returns-in-Ok-take-clause-zero c =
    let ticket = c.in-Ok-take.ticket in
    let took = c.in-Ok-take.ensures in
    let some : 1 ≤ ticket.frames = rw took.frames c.requires.some in
    let memory : IsMemory c.args.self.now = rw (← c.self.view_is) c.self.invariant.memory in
    let here : IsPlace c.self.inside.pool ticket.frames c.args.align ticket.first =
    rw took.frames took.lowest.place in
    let place : IsPlace c.args.self.now.marks ticket.frames c.args.align ticket.first =
    rw (← c.self.view_is) here in
    ap (λ (m : Contents). bytes_of m ticket) (returns-in-Ok-take-clause-taken c)
    ∙ zero-after_take c.args.self.now ticket c.args.align memory some place
