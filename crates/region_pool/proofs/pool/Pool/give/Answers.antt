use Rattle.std.proofs.Common.{◌≡◌}
use Rattle.region_pool.specs.Marks.{IsPool}
use Rattle.region_pool.specs.Spans.{without_span}
use Rattle.region_pool.proofs.PoolMarks.{pool-without_span, others-without_span}
use Rattle.region_pool.proofs.pool.Pool.give.Goals as goal

pub invariant_of-self : goal.invariant_of-self
invariant_of-self c =
    let after : c.free_span.new.marks.items ≡ without_span c.args.self.now c.args.ticket = cc in
    let pool : IsPool c.args.self.now = rw (← c.self.view_is) c.self.invariant in
    rw after (pool-without_span _ _ c.requires pool)

pub returns-clause-others_held : goal.returns-clause-others_held
returns-clause-others_held c =
    let after : c.free_span.new.marks.items ≡ without_span c.args.self.now c.args.ticket = cc in
    rw after (others-without_span _ _ c.requires)
