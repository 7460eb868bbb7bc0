use Rattle.std.proofs.Common.{◌≡◌, ◌≤◌, ℕ, List, length, replicate, ap, arith}
use Rattle.std.proofs.lemmas.List.{length-replicate}
use Rattle.region_pool.specs.Spans.{Holds}
use Rattle.machine_memory.specs.Writes.{written}
use Rattle.machine_memory.specs.Contents.{Contents, first_byte}
use Rattle.machine_memory.specs.Blocks.{block_at}
use Rattle.machine_memory.proofs.MemoryLemmas.{memory-span_bytes}
use Rattle.machine_memory.proofs.BlockLemmas.{block_within, block-is}
use Rattle.machine_memory.proofs.InBlocks.{in-written, front-written}
use Rattle.machine_memory.proofs.Inside.{contents_of}
use Rattle.machine_memory.proofs.memory.Memory.erase.Goals as goal

pub invariant_of-self : goal.invariant_of-self
invariant_of-self c =
    let span = c.args.area.now in
    let blocks = c.self.inside.blocks.items in
    let held : Holds c.self.inside.pool c.args.area.now =
    rw (ap (λ (m : Contents). m.marks) c.self.view_is) c.requires.held in
    let m = c.self.invariant in
    let frames = c.requires.frames in
    let low = c.frames_of_region.ensures.few in
    let zeros : List ℕ = replicate (first_byte c.frames_of_region.result) 0 in
    let few : length zeros ≤ first_byte span.frames =
    omega (arith, length-replicate {A = ℕ} (first_byte c.frames_of_region.result) 0) in
    let is = block-is blocks span.first c.index_mut.result.now
    (block_within c.self.inside.pool blocks span m.has held)
    (rw c.first-first.ensures at c.index_mut.ensures.value) in
    let now : c.wipe.new.self ≡ written (block_at blocks span.first) 0 zeros =
    rw is at c.wipe.ensures in
    rw (c.first-first.ensures, now)
    (in-written c.self.inside.pool c.self.inside.excluded.items blocks _ (first_byte span.first)
    zeros (front-written c.self.inside.pool blocks span zeros m.has held few)
    (memory-span_bytes (contents_of c.self.inside) span zeros m.memory held few))

pub returns : goal.returns
returns c =
    let span = c.args.area.now in
    let blocks = c.self.inside.blocks.items in
    let held : Holds c.self.inside.pool c.args.area.now =
    rw (ap (λ (m : Contents). m.marks) c.self.view_is) c.requires.held in
    let m = c.self.invariant in
    let frames = c.requires.frames in
    let low = c.frames_of_region.ensures.few in
    let zeros : List ℕ = replicate (first_byte c.frames_of_region.result) 0 in
    let few : length zeros ≤ first_byte span.frames =
    omega (arith, length-replicate {A = ℕ} (first_byte c.frames_of_region.result) 0) in
    let is = block-is blocks span.first c.index_mut.result.now
    (block_within c.self.inside.pool blocks span m.has held)
    (rw c.first-first.ensures at c.index_mut.ensures.value) in
    let now : c.wipe.new.self ≡ written (block_at blocks span.first) 0 zeros =
    rw is at c.wipe.ensures in
    rw (← c.self.view_is, c.first-first.ensures, now, ← c.frames_of_region.ensures.same)
    (ap (λ (bytes : List ℕ). record (contents_of c.self.inside) { bytes = bytes })
    (front-written c.self.inside.pool blocks span zeros m.has held few).bytes)
