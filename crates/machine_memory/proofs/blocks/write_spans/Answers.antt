use Rattle.std.proofs.Common.{◌≡◌, ◌≤◌, ◌+◌, ◌-◌, ℕ, List, length, take, drop, ap, sym}
use Rattle.std.proofs.Common.{◌∙◌, get_or, arith}
use Rattle.machine_memory.specs.Writes.{written}
use Rattle.machine_memory.specs.Contents.{first_byte}
use Rattle.machine_memory.specs.Blocks.{block_at}
use Rattle.machine_memory.proofs.BlockLemmas.{written-more, within-found, block-is}
use Rattle.machine_memory.proofs.blocks.write_spans.Goals as goal

pub loop-done-preserved : goal.loop-done-preserved
loop-done-preserved c =
    let marks = c.args.pool.now in
    let blocks = c.loop-done.blocks in
    let done = c.loop-done.done in
    let first = c.span_of-first.result.0 in
    let frames = c.span_of-first.result.1 in
    let found = c.span_of-first.ensures in
    let begun = found.inside.begun in
    let begins = found.begins in
    let so_far = c.loop-done.invariant in
    let count = c.min-count.result in
    let from : ℕ = c.args.at + done - first_byte first in
    let least = c.min-count.ensures in
    let test = c.loop-done-test.true in
    let few : done + count ≤ length c.args.bytes.now = omega arith in
    let many : (done + count) - done ≡ count = omega arith in
    let is = block-is blocks first c.index-blocks-first.result
    (within-found marks blocks _ first frames so_far.sound found) c.index-blocks-first.is in
    let now : c.write.new.self
    ≡ written (block_at blocks first) from (take count (drop done c.args.bytes.now)) =
    c.write.ensures
    ∙ ap (λ (n : ℕ). written (get_or blocks first c.index-blocks-first.result) from
    (take n (drop done c.args.bytes.now))) many
    ∙ ap (λ (xs : List ℕ). written xs from (take count (drop done c.args.bytes.now)))
    (sym c.index-blocks-first.is ∙ is) in
    let more = written-more marks c.args.blocks.now blocks c.args.at done count first frames
    c.args.bytes.now (record { has = so_far.sound; bytes = so_far.so_far }) found few
    (omega arith) in
    record {
      inside = few;
      sound = rw now more.has;
      so_far = rw now more.bytes;
    }
