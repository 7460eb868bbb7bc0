use Rattle.std.proofs.Common.{map, ap, ◌∙◌, arith}
use Rattle.std.proofs.lemmas.Result.{err_from_is_err_and}
use Rattle.pal_asm.specs.SeenDraft.{placed_view}
use Rattle.pal_asm.proofs.DraftLemmas.{more_code, refused, some_placed}
use Rattle.pal_asm.proofs.draft.Draft.finish.Goals as goal

pub loop-placed-preserved : goal.loop-placed-preserved
loop-placed-preserved c = λ lines s.
    let h = c.in_ok-put_placed.ensures lines.labels s.labels in
    more_code c.deref-placed-items.result.now lines.placed lines.labels c.loop-placed.placed-index
    c.placed-item.result c.loop-placed.code.bytes c.put_placed.new.code.bytes h.0
    (ap (map placed_view) c.deref-placed-items.ensures.value
    ∙ s.placed) (omega arith) c.placed-item.is h.1 h.2 (c.loop-placed.invariant lines s)

pub returns-in_err-put_placed-clause-code : goal.returns-in_err-put_placed-clause-code
returns-in_err-put_placed-clause-code c = λ lines s.
    let p = err_from_is_err_and c.from_residual.result c.from_residual.ensures.1 in
    rw (p.1, p.2)
    (refused c.deref-placed-items.result.now lines.placed lines.labels c.loop-placed.placed-index
    c.placed-item.result c.loop-placed.code.bytes c.in_err-put_placed.field-0.0
    (ap (map placed_view) c.deref-placed-items.ensures.value
    ∙ s.placed) (omega arith) c.placed-item.is
    (c.in_err-put_placed.ensures lines.labels s.labels) (c.loop-placed.invariant lines s))

pub returns-in_err-put_placed-clause-blank : goal.returns-in_err-put_placed-clause-blank
returns-in_err-put_placed-clause-blank c = λ lines s none.
    absurd (some_placed c.deref-placed-items.result.now lines.placed c.loop-placed.placed-index
    (ap (map placed_view) c.deref-placed-items.ensures.value ∙ s.placed) (omega arith) none)
