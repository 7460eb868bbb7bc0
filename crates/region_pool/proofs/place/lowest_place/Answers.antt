use Rattle.std.proofs.Common.{sym, ◌∙◌, arith}
use Rattle.region_pool.proofs.MarkLemmas.{free_mark, taken_mark}
use Rattle.region_pool.proofs.Search.{searched-found, searched-free, searched-taken}
use Rattle.region_pool.proofs.place.lowest_place.Goals as goal
use Rattle.region_pool.proofs.place.lowest_place.Goals.{then-not-is_free}
use Rattle.region_pool.proofs.place.lowest_place.Goals.{else-not-is_free+else-candidate-frames}

pub returns-then-candidate-frames-clause-found : goal.returns-then-candidate-frames-clause-found
returns-then-candidate-frames-clause-found c =
    let inside = c.loop-frame-test.true in
    searched-found _ _ _ _ _ c.loop-frame.invariant.searched inside
    (free_mark _ _ _ inside (sym c.is_free.ensures ∙ c.if-not-is_free.false))
    c.if-candidate-frames.true

pub loop-frame-preserved : goal.loop-frame-preserved
loop-frame-preserved c =
    let searched = c.loop-frame.invariant.searched in
    let inside = c.loop-frame-test.true in
    elim c.if-not-is_free.branch [
      | then-not-is_free w ↦
          let next = w.multiple_after-candidate.ensures in
          rw w.candidate-is (record {
            searched = searched-taken _ _ _ _ _ _ c.requires.some searched
                (taken_mark _ _ _ inside (sym c.is_free.ensures ∙ w.if-not-is_free.true))
                next.multiple next.after next.least;
            near = omega arith;
          })
      | else-not-is_free+else-candidate-frames w ↦
          rw w.candidate-is (record {
            searched = searched-free _ _ _ _ _ searched
                (free_mark _ _ _ inside (sym c.is_free.ensures ∙ w.if-not-is_free.false))
                w.if-candidate-frames.false;
            near = (let near = c.loop-frame.invariant.near in omega arith);
          })
    ]
