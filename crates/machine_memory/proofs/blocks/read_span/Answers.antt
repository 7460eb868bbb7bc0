use Rattle.std.proofs.Common.{◌≡◌, ◌+◌, ◌-◌, ℕ, List, length, take, drop, ap, sym, ◌∙◌, arith}
use Rattle.std.proofs.lemmas.Bool.{eqb-false}
use Rattle.machine_memory.specs.Contents.{first_byte}
use Rattle.machine_memory.proofs.SpanLemmas.{lies-taken, lies_in_found}
use Rattle.machine_memory.proofs.BlockLemmas.{part-found, long-found, within-found, block-is}
use Rattle.machine_memory.proofs.blocks.read_span.Goals as goal

pub span_of-first-requires-clause-taken : goal.span_of-first-requires-clause-taken
span_of-first-requires-clause-taken c =
    let some = eqb-false (length c.args.out.now) 0 (sym c.is_empty.ensures ∙ c.if-is_empty.false) in
    lies-taken c.args.pool.now c.args.at (length c.args.out.now) c.args.at c.requires.inside
    (omega arith) (omega arith)

pub slice_bounds-copy_from_slice-end : goal.slice_bounds-copy_from_slice-end
slice_bounds-copy_from_slice-end c =
    let some = eqb-false (length c.args.out.now) 0 (sym c.is_empty.ensures ∙ c.if-is_empty.false) in
    let first = c.span_of-first.result.0 in
    let found = c.span_of-first.ensures in
    let fits = lies_in_found c.args.pool.now c.args.at (length c.args.out.now) first
    c.span_of-first.result.1 (omega arith) found c.requires.inside in
    let begun = found.inside.begun in
    let begins = found.begins in
    let is = c.bytes-block.ensures
    ∙ block-is c.args.blocks.now first c.index-blocks-first.result
    (within-found c.args.pool.now c.args.blocks.now _ first c.span_of-first.result.1
    c.requires.sound found) c.index-blocks-first.is in
    let long = ap (λ (xs : List ℕ). length xs) is
    ∙ long-found c.args.pool.now c.args.blocks.now _ first c.span_of-first.result.1
    c.requires.sound found in
    omega arith

pub returns : goal.returns
returns c =
    let some = eqb-false (length c.args.out.now) 0 (sym c.is_empty.ensures ∙ c.if-is_empty.false) in
    let first = c.span_of-first.result.0 in
    let found = c.span_of-first.ensures in
    let count : ℕ = length c.args.out.now in
    let from : ℕ = c.args.at - first_byte first in
    let fits = lies_in_found c.args.pool.now c.args.at count first c.span_of-first.result.1
    (omega arith) found c.requires.inside in
    let is = c.bytes-block.ensures
    ∙ block-is c.args.blocks.now first c.index-blocks-first.result
    (within-found c.args.pool.now c.args.blocks.now _ first c.span_of-first.result.1
    c.requires.sound found) c.index-blocks-first.is in
    let many : (from + count) - from ≡ count = omega arith in
    c.copy_from_slice.ensures.after
    ∙ ap (λ (n : ℕ). take n (drop from c.bytes-block.result.now)) many
    ∙ ap (λ (xs : List ℕ). take count (drop from xs)) is
    ∙ sym (part-found c.args.pool.now c.args.blocks.now c.args.at count first
    c.span_of-first.result.1 c.requires.sound found fits)
