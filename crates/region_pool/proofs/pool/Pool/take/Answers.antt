use Rattle.std.proofs.lemmas.Option.{MatchOption-at_some}
use Rattle.region_pool.specs.Places.{IsLowestPlace}
use Rattle.region_pool.specs.Spans.{Span}
use Rattle.region_pool.proofs.PoolMarks.{pool-with_span, held-with_span, others-with_span}
use Rattle.region_pool.proofs.PoolMarks.{apart-with_span}
use Rattle.region_pool.proofs.pool.Pool.take.Goals as goal

pub invariant_of-self : goal.invariant_of-self
invariant_of-self c =
    let found = MatchOption-at_some _ _ c.in_ok-first.first c.in_ok-first.ensures.ok_part
    c.lowest_place.ensures.found in
    let lowest : IsLowestPlace c.self.inside.marks.items c.args.frames c.args.align
    c.in_ok-first.first = rw (← c.deref.ensures.value) found in
    let span : Span =
    record { first = c.in_ok-first.first; frames = c.args.frames; purpose = c.args.purpose } in
    rw c.mark_span.ensures
    (pool-with_span _ span c.args.align c.requires.some lowest.place c.self.invariant)

pub returns-clause-held : goal.returns-clause-held
returns-clause-held c =
    let found = MatchOption-at_some _ _ c.in_ok-first.first c.in_ok-first.ensures.ok_part
    c.lowest_place.ensures.found in
    let lowest : IsLowestPlace c.self.inside.marks.items c.args.frames c.args.align
    c.in_ok-first.first = rw (← c.deref.ensures.value) found in
    rw c.mark_span.ensures
    (held-with_span _ _ c.args.align c.requires.some lowest.place c.self.invariant)

pub returns-clause-others_held : goal.returns-clause-others_held
returns-clause-others_held c =
    let found = MatchOption-at_some _ _ c.in_ok-first.first c.in_ok-first.ensures.ok_part
    c.lowest_place.ensures.found in
    let lowest : IsLowestPlace c.self.inside.marks.items c.args.frames c.args.align
    c.in_ok-first.first = rw (← c.deref.ensures.value) found in
    rw (← c.self.view_is, c.mark_span.ensures)
    (others-with_span _ _ c.args.align c.requires.some lowest.place)

pub returns-clause-apart : goal.returns-clause-apart
returns-clause-apart c =
    let found = MatchOption-at_some _ _ c.in_ok-first.first c.in_ok-first.ensures.ok_part
    c.lowest_place.ensures.found in
    let lowest : IsLowestPlace c.self.inside.marks.items c.args.frames c.args.align
    c.in_ok-first.first = rw (← c.deref.ensures.value) found in
    let span : Span =
    record { first = c.in_ok-first.first; frames = c.args.frames; purpose = c.args.purpose } in
    rw (← c.self.view_is) (apart-with_span _ span c.args.align c.requires.some lowest.place)
