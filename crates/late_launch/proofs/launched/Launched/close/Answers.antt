use Rattle.std.proofs.Common.{◌≡◌}
use Rattle.late_launch.specs.Regions.{around, with_outputs}
use Rattle.late_launch.proofs.RegionLemmas.{inside_memory, inside_outputs, cleared_around, outputs_around}
use Rattle.late_launch.proofs.SessionLemmas.{close_answered}
use Rattle.late_launch.proofs.launched.Launched.close.Goals as goal

pub new-requires-clause-cleared : goal.new-requires-clause-cleared
new-requires-clause-cleared c =
    let memory = c.session.inside.memory in
    let area = c.session.inside.area in
    let inside = inside_memory memory area c.frame_law.ensures c.session.invariant.placed in
    rw (c.unguard.ensures, c.erase.ensures, c.put_outputs.ensures)
    (cleared_around (with_outputs memory area c.args.outputs.now) area (inside_outputs memory area c.args.outputs.now inside c.requires.outputs))

pub returns : goal.returns
returns c =
    let memory = c.session.inside.memory in
    let area = c.session.inside.area in
    let inside = inside_memory memory area c.frame_law.ensures c.session.invariant.placed in
    let ended : c.unguard.new.self ≡ with_outputs (around memory area) area c.args.outputs.now =
    rw (c.unguard.ensures, c.erase.ensures, c.put_outputs.ensures) (outputs_around memory area c.args.outputs.now inside c.requires.outputs) in
    let others = rw (← c.session.view_is) at c.extend_closing.ensures.others in
    let ends = rw (← c.session.view_is) at c.in_default.ensures.ends in
    rw c.new.ensures (close_answered c.args.self _ c.args.end c.args.turns c.args.outputs.now _ c.unguard.new.self others ends ended)
