use Rattle.std.proofs.Common.{◌≡◌}
use Rattle.region_pool.specs.Marks.{IsPool, IsTaken}
use Rattle.region_pool.proofs.FrameSpans.{span_at-extends}
use Rattle.region_pool.proofs.pool.Pool.span_at.Goals as goal

pub returns-clause-found : goal.returns-clause-found
returns-clause-found c =
    let taken : IsTaken c.args.self.now c.args.frame =
    c.is_taken.ensures.0 c.if-not-is_taken.false in
    let pool : IsPool c.args.self.now = rw (← c.self.view_is) c.self.invariant in
    let is : c.deref.result.now ≡ c.args.self.now = cc in
    let is_too : c.deref-2.result.now ≡ c.args.self.now = cc in
    let first = rw is at c.first_of_span-first.ensures in
    let stop = rw is_too at c.end_of_span-end.ensures in
    span_at-extends _ _ _ _ pool taken (record {
      before = first.before;
      begins = first.found;
      back = first.between;
      after = stop.after;
      within = stop.inside;
      ends = stop.found;
      ahead = stop.between;
    })
