use Rattle.std.proofs.Common.{List, ℕ, length, ap, ◌∙◌}
use Rattle.region_pool.specs.Spans.{Holds}
use Rattle.machine_memory.specs.Contents.{Contents}
use Rattle.machine_memory.proofs.BlockLemmas.{block_within, block-is}
use Rattle.machine_memory.proofs.InBlocks.{block-of_span}
use Rattle.machine_memory.proofs.memory.Memory.lend.Goals as goal

pub returns-clause-bytes : goal.returns-clause-bytes
returns-clause-bytes c =
    let span = c.args.span.now in
    let blocks = c.self.inside.blocks.items in
    let held : Holds c.self.inside.pool c.args.span.now =
    rw (ap (λ (m : Contents). m.marks) c.self.view_is) c.requires in
    let has = c.self.invariant.has in
    let is = block-is blocks span.first c.index.result.now
    (block_within c.self.inside.pool blocks span has held) (rw c.first.ensures at c.index.ensures) in
    rw (← c.self.view_is)
    (c.bytes.ensures ∙ is ∙ block-of_span c.self.inside.pool blocks span has held)

pub returns-clause-size : goal.returns-clause-size
returns-clause-size c =
    let span = c.args.span.now in
    let blocks = c.self.inside.blocks.items in
    let held : Holds c.self.inside.pool c.args.span.now =
    rw (ap (λ (m : Contents). m.marks) c.self.view_is) c.requires in
    let has = c.self.invariant.has in
    let is = block-is blocks span.first c.index.result.now
    (block_within c.self.inside.pool blocks span has held) (rw c.first.ensures at c.index.ensures) in
    ap (λ (xs : List ℕ). length xs) (c.bytes.ensures ∙ is) ∙ has.of_span span held
