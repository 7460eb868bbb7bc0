use Rattle.std.proofs.Common.{◌+◌, ◌≤◌, List, [], ◌∷◌, length, replicate, sym, ap, ◌∙◌, arith, ℕ}
use Rattle.std.proofs.lemmas.List.{length-replicate, replicate_more}
use Rattle.machine_memory.specs.Contents.{Contents, first_byte}
use Rattle.machine_memory.specs.Writes.{written}
use Rattle.machine_memory.specs.Spans.{with_bytes}
use Rattle.machine_memory.proofs.Pieces.{written-nothing, written-after}
use Rattle.machine_memory.proofs.MemoryLemmas.{span_within}
use Rattle.machine_tests.proofs.loans.stamp.Goals as goal

pub loop-offset-init : goal.loop-offset-init
loop-offset-init c =
    let memory = c.args.memory.now in
    ap (λ (bytes : List ℕ). record memory { bytes = bytes })
    (sym (written-nothing memory.bytes (first_byte c.args.span.now.first)))

pub loop-offset-preserved : goal.loop-offset-preserved
loop-offset-preserved c =
    let memory = c.args.memory.now in
    let at = first_byte c.args.span.now.first in
    let k = c.loop-offset.offset in
    let byte = c.args.byte in
    let room = span_within memory c.args.span.now c.args.span.now.frames c.frame_law.ensures
    c.requires.held (omega arith) in
    let inside = c.requires.inside in
    let test = c.loop-offset-test.true in
    let fits : at + k ≤ length memory.bytes = omega arith in
    c.put.ensures
    ∙ ap (λ (m : Contents). with_bytes m (at + k) (byte ∷ [])) c.loop-offset.invariant
    ∙ ap (λ (bytes : List ℕ). record memory { bytes = bytes })
    (
    written-after memory.bytes at k (replicate k byte) (byte ∷ []) (length-replicate k byte) fits
    ∙ ap (written memory.bytes at) (replicate_more k byte)
    )
