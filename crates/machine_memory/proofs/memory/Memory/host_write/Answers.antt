use Rattle.std.proofs.Common.{◌≡◌, ℕ, List, length, sym, ap, ◌∙◌}
use Rattle.std.proofs.lemmas.List.{with_items_is}
use Rattle.machine_memory.specs.Spans.{LiesInSpan}
use Rattle.machine_memory.proofs.SpanLemmas.{lies-taken}
use Rattle.machine_memory.proofs.MemoryLemmas.{memory-host_write}
use Rattle.machine_memory.proofs.InBlocks.{in-written}
use Rattle.machine_memory.proofs.Inside.{contents_of}
use Rattle.machine_memory.proofs.memory.Memory.host_write.Goals as goal

pub write_spans-requires-clause-taken : goal.write_spans-requires-clause-taken
write_spans-requires-clause-taken c =
    let lies : LiesInSpan c.self.inside.pool c.args.at (length c.args.bytes.now) =
    c.lies_in_span.ensures.0 c.if-not-lies_in_span.false in
    λ address l h. lies-taken c.self.inside.pool c.args.at (length c.args.bytes.now) address lies l
    h

pub invariant_of-self : goal.invariant_of-self
invariant_of-self c =
    let lies : LiesInSpan c.self.inside.pool c.args.at (length c.args.bytes.now) =
    c.lies_in_span.ensures.0 c.if-not-lies_in_span.false in
    let blocks = c.self.inside.blocks in
    let now = c.write_spans.new.blocks in
    let value = c.deref_mut.ensures.value in
    let long : length now ≡ blocks.len =
    c.write_spans.auto.blocks ∙ ap (λ (xs : List (List ℕ)). length xs) value ∙ sym blocks.ok.0 in
    rw (with_items_is blocks now long)
    (in-written c.self.inside.pool c.self.inside.excluded.items blocks.items now c.args.at
    c.args.bytes.now
    (record { has = c.write_spans.ensures.sound; bytes = rw value at c.write_spans.ensures.written })
    (memory-host_write (contents_of c.self.inside) c.args.at c.args.bytes.now
    c.self.invariant.memory lies))
