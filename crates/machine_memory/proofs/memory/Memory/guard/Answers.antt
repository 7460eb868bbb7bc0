use Rattle.std.proofs.Common.{ap, arith, true}
use Rattle.region_pool.specs.Spans.{Holds}
use Rattle.machine_memory.specs.Contents.{Contents}
use Rattle.machine_memory.proofs.MemoryLemmas.{memory-span_bits}
use Rattle.machine_memory.proofs.Inside.{contents_of}
use Rattle.machine_memory.proofs.memory.Memory.guard.Goals as goal

pub invariant_of-self : goal.invariant_of-self
invariant_of-self c =
    let held : Holds c.self.inside.pool c.args.area.now =
    rw (ap (λ (m : Contents). m.marks) c.self.view_is) c.requires.held in
    let frames = c.requires.frames in
    let few = c.frames_of_region.ensures.few in
    rw (c.exclude_at.ensures, c.first-first.ensures)
    (record {
      memory = memory-span_bits (contents_of c.self.inside) c.args.area.now
          c.frames_of_region.result true c.self.invariant.memory held (omega arith);
      has = c.self.invariant.has;
    })
