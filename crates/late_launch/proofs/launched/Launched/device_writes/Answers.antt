use Rattle.late_launch.proofs.RegionLemmas.{inside_memory, turn_around, turn_region}
use Rattle.late_launch.proofs.SessionLemmas.{same_session}
use Rattle.late_launch.proofs.launched.Launched.device_writes.Goals as goal

pub returns-clause-session : goal.returns-clause-session
returns-clause-session c =
    let memory = c.self.inside.memory in
    let area = c.self.inside.area in
    let inside = inside_memory memory area c.frame_law.ensures c.self.invariant.placed in
    rw (← c.self.view_is, c.run.ensures.memory) (same_session _ _ _ _ _ _ _ _ _
    (turn_around c.args.turn memory area c.args.dma.now c.frame_law.ensures inside c.self.invariant.guarded_region)
    (turn_region c.args.turn memory area c.args.dma.now c.frame_law.ensures inside c.self.invariant.guarded_region))
