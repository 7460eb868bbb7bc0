use Rattle.std.proofs.Common.{ap}
use Rattle.region_pool.specs.Spans.{Holds}
use Rattle.machine_memory.specs.Contents.{Contents}
use Rattle.machine_memory.proofs.InBlocks.{in-give, contents-give}
use Rattle.machine_memory.proofs.memory.Memory.give_wiped.Goals as goal

pub invariant_of-self : goal.invariant_of-self
invariant_of-self c =
    let held : Holds c.self.inside.pool c.args.ticket =
    rw (ap (λ (m : Contents). m.marks) c.self.view_is) c.requires in
    rw (
      c.give.ensures.freed,
      c.exclude_at.ensures,
      c.first-first.ensures,
      c.frames-frames.ensures,
      c.empty.ensures,
    ) (in-give c.self.inside.pool c.self.inside.excluded.items c.self.inside.blocks.items
    c.args.ticket c.self.invariant held)

pub returns-clause-given : goal.returns-clause-given
returns-clause-given c =
    let held : Holds c.self.inside.pool c.args.ticket =
    rw (ap (λ (m : Contents). m.marks) c.self.view_is) c.requires in
    rw (
      ← c.self.view_is,
      c.give.ensures.freed,
      c.exclude_at.ensures,
      c.first-first.ensures,
      c.frames-frames.ensures,
      c.empty.ensures,
    ) (contents-give c.self.inside.pool c.self.inside.excluded.items c.self.inside.blocks.items
    c.args.ticket c.self.invariant held)
