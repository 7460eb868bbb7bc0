use Rattle.std.proofs.Common.{refl, ◌∙◌}
use Rattle.late_launch.proofs.RegionLemmas.{inside_memory, around_loan, region_loan, region_size_is}
use Rattle.late_launch.proofs.SessionLemmas.{same_session}
use Rattle.late_launch.proofs.launched.Launched.region.Goals as goal

pub returns : goal.returns
returns c =
    let memory = c.self.inside.memory in
    let area = c.self.inside.area in
    let inside = inside_memory memory area c.frame_law.ensures c.self.invariant.placed in (
      (
        refl,
        λ w. rw (← c.self.view_is) (same_session _ _ _ _ _ _ _ _ _ (around_loan memory area w inside) (region_loan memory area w inside)),
      ),
      record {
        lends = tt;
        bytes = rw (← c.self.view_is) c.region_mut.ensures.bytes;
        size = c.region_mut.ensures.size ∙ region_size_is;
      },
    )
