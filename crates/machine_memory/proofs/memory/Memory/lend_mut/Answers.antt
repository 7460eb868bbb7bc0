use Rattle.std.proofs.Common.{ℕ, ◌≤◌, List, length, refl, ap, ◌∙◌, arith}
use Rattle.region_pool.specs.Spans.{Holds}
use Rattle.machine_memory.specs.Contents.{Contents, first_byte}
use Rattle.machine_memory.proofs.Pieces.{length-part}
use Rattle.machine_memory.proofs.MemoryLemmas.{span_within}
use Rattle.machine_memory.proofs.BlockLemmas.{block_within, block-is}
use Rattle.machine_memory.proofs.InBlocks.{in-loan, contents-loan, bytes-of_block}
use Rattle.machine_memory.proofs.Inside.{contents_of}
use Rattle.machine_memory.proofs.memory.Memory.lend_mut.Goals as goal

pub invariant_of-self-lent : goal.invariant_of-self-lent
invariant_of-self-lent c = λ w.
    let span = c.args.span.now in
    let blocks = c.self.inside.blocks.items in
    let held : Holds c.self.inside.pool c.args.span.now =
    rw (ap (λ (m : Contents). m.marks) c.self.view_is) c.requires in
    let m = c.self.invariant in
    let few : span.frames ≤ span.frames = omega arith in
    let is = block-is blocks span.first c.index_mut.result.now
    (block_within c.self.inside.pool blocks span m.has held)
    (rw c.first.ensures at c.index_mut.ensures.value) in
    rw (c.first.ensures, c.frames.ensures, is)
    (in-loan c.self.inside.pool c.self.inside.excluded.items blocks span span.frames w m held few)

pub returns : goal.returns
returns c =
    let span = c.args.span.now in
    let blocks = c.self.inside.blocks.items in
    let held : Holds c.self.inside.pool c.args.span.now =
    rw (ap (λ (m : Contents). m.marks) c.self.view_is) c.requires in
    let m = c.self.invariant in
    let few : span.frames ≤ span.frames = omega arith in
    let is = block-is blocks span.first c.index_mut.result.now
    (block_within c.self.inside.pool blocks span m.has held)
    (rw c.first.ensures at c.index_mut.ensures.value) in
    let lent = (rw (is, c.frames.ensures) at c.part.ensures.value)
    ∙ bytes-of_block c.self.inside.pool blocks span span.frames m.has held few in
    let within = span_within (contents_of c.self.inside) span span.frames m.memory held few in (
      (
        refl,
        λ w. rw (← c.self.view_is, c.first.ensures, c.frames.ensures, is)
            (contents-loan c.self.inside.pool c.self.inside.excluded.items blocks span span.frames w
            m held few),
      ),
      record {
        lends = tt;
        bytes = rw (← c.self.view_is) lent;
        size = ap (λ (xs : List ℕ). length xs) lent
            ∙ length-part (contents_of c.self.inside).bytes (first_byte span.first)
            (first_byte span.frames) within;
      },
    )
