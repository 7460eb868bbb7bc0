use Rattle.std.proofs.Common.{◌≡◌, ◌-◌, sym, ◌∙◌, true, false, is_some}
use Rattle.machine_memory.proofs.SpanLemmas.{IsFound, touches}
use Rattle.machine_memory.specs.Contents.{frame_of}
use Rattle.machine_memory.proofs.spans.touches_span.Goals as goal

pub returns-then-is_some : goal.returns-then-is_some
returns-then-is_some c =
    let here : IsFound c.args.pool.now (frame_of c.args.at) c.span_at-here.result =
    record { some = c.span_at-here.ensures.found; none = c.span_at-here.ensures.none } in
    let before : IsFound c.args.pool.now (frame_of (c.args.at - 1)) c.span_at-before.result =
    rw (← c.saturating_sub.ensures)
    (record { some = c.span_at-before.ensures.found; none = c.span_at-before.ensures.none }) in
    let is : is_some c.span_at-here.result ≡ true = sym c.is_some.ensures ∙ c.if-is_some.true in
    rw c.if-is_some.true
    (rw is at (touches c.args.pool.now c.args.at c.span_at-here.result c.span_at-before.result
    here before))

pub returns-else-is_some : goal.returns-else-is_some
returns-else-is_some c =
    let here : IsFound c.args.pool.now (frame_of c.args.at) c.span_at-here.result =
    record { some = c.span_at-here.ensures.found; none = c.span_at-here.ensures.none } in
    let before : IsFound c.args.pool.now (frame_of (c.args.at - 1)) c.span_at-before.result =
    rw (← c.saturating_sub.ensures)
    (record { some = c.span_at-before.ensures.found; none = c.span_at-before.ensures.none }) in
    let is : is_some c.span_at-here.result ≡ false = sym c.is_some.ensures ∙ c.if-is_some.false in
    rw c.is_some-else-is_some.ensures
    (rw is at (touches c.args.pool.now c.args.at c.span_at-here.result c.span_at-before.result
    here before))
