use Rattle.std.proofs.Common.{take, drop, ◌++◌, length-take, length-drop, ◌+◌, ◌-◌, refl, ap, ◌∙◌, arith}
use Rattle.std.specs.Prelude.{slice_range}
use Rattle.std.proofs.lemmas.Result.{err_from_is_err_and}
use Rattle.script_text.specs.Reader.{Held}
use Rattle.script_text.proofs.BufferLemmas.{refilled, held_kept, after_read, same_held, range_join, read_cases}
use Rattle.script_text.proofs.reader.LineReader.fill.Goals as goal

pub invariant_of-self : goal.invariant_of-self
invariant_of-self g c =
    let r = c.self.inside in
    let start = c.make_room-start.result in
    let seen = start + (r.end - r.start) in
    let held = held_kept r.buffer.items c.deref_mut.result.now c.make_room-start.new.buffer c.deref_mut-2.result.now c.read_into.new.buffer r.start r.end start seen
    c.deref_mut.ensures.value c.make_room-start.ensures.held
    (c.deref_mut-2.ensures.value ∙ refilled _ _ _ (omega arith)) c.read_into.ensures.prefix in
    after_read _ c.read_into.new.buffer _ c.args.self.now.bytes start seen seen (omega arith)
    (omega arith) (omega arith) (omega arith) (omega arith) (omega arith)
    (held ∙ ap (λ (h : Held). h.bytes) c.self.view_is) c.requires.one c.requires.short

pub returns-in_err-count-clause-err : goal.returns-in_err-count-clause-err
returns-in_err-count-clause-err g c =
    let r = c.self.inside in
    let start = c.make_room-start.result in
    let seen = start + (r.end - r.start) in
    let read = c.read_into.new.buffer in
    let held = held_kept r.buffer.items c.deref_mut.result.now c.make_room-start.new.buffer c.deref_mut-2.result.now read r.start r.end start seen
    c.deref_mut.ensures.value c.make_room-start.ensures.held
    (c.deref_mut-2.ensures.value ∙ refilled _ _ _ (omega arith)) c.read_into.ensures.prefix
    ∙ ap (λ (h : Held). h.bytes) c.self.view_is in
    let p = err_from_is_err_and c.from_residual.result c.from_residual.ensures.1 in
    rw (p.1) (same_held _ _ (ap (λ xs. slice_range xs start seen)
    (refilled r.buffer.len read _ (omega arith)) ∙ held)
    (ap (λ (h : Held). h.ended) c.self.view_is) refl)

pub invariant_of-self-2 : goal.invariant_of-self-2
invariant_of-self-2 g c =
    let r = c.self.inside in
    let start = c.make_room-start.result in
    let seen = start + (r.end - r.start) in
    let read = c.read_into.new.buffer in
    let held = held_kept r.buffer.items c.deref_mut.result.now c.make_room-start.new.buffer c.deref_mut-2.result.now read r.start r.end start seen
    c.deref_mut.ensures.value c.make_room-start.ensures.held
    (c.deref_mut-2.ensures.value ∙ refilled _ _ _ (omega arith)) c.read_into.ensures.prefix
    ∙ ap (λ (h : Held). h.bytes) c.self.view_is in
    after_read _ read _ c.args.self.now.bytes start seen (seen + c.in_ok-count.count) (omega arith)
    (omega arith) (omega arith) (omega arith) (omega (arith, c.in_ok-count.ensures.bound))
    (omega arith) held c.requires.one c.requires.short

pub returns-clause-ok : goal.returns-clause-ok
returns-clause-ok g c =
    let r = c.self.inside in
    let start = c.make_room-start.result in
    let seen = start + (r.end - r.start) in
    let read = c.read_into.new.buffer in
    let held = held_kept r.buffer.items c.deref_mut.result.now c.make_room-start.new.buffer c.deref_mut-2.result.now read r.start r.end start seen
    c.deref_mut.ensures.value c.make_room-start.ensures.held
    (c.deref_mut-2.ensures.value ∙ refilled _ _ _ (omega arith)) c.read_into.ensures.prefix
    ∙ ap (λ (h : Held). h.bytes) c.self.view_is in
    let count = c.in_ok-count.count in
    let room = length-drop seen read in
    record {
      piece = take count (drop seen read);
      consumed = c.in_ok-count.ensures.bytes.0;
      bytes = ap (λ xs. slice_range xs start (seen + count))
          (refilled r.buffer.len read _ (omega arith))
          ∙ range_join read start seen (seen + count) (omega arith) (omega arith)
          ∙ ap (λ xs. xs ++ slice_range read seen (seen + count)) held
          ∙ ap (λ k. c.args.self.now.bytes ++ take k (drop seen read)) (omega arith);
      few = omega (arith, length-take count (drop seen read), c.in_ok-count.ensures.bound);
      line = refl;
      cases = read_cases count (drop seen read) (g.S.Source.left c.read_into.new.source)
          (omega (arith, c.in_ok-count.ensures.bound)) (omega arith) c.in_ok-count.ensures.bytes.1;
    }
