use Rattle.std.proofs.Common.{◌∙◌, ap}
use Rattle.late_launch.specs.Regions.{region_bytes}
use Rattle.late_launch.specs.States.{SuspendedParts, image_in}
use Rattle.late_launch.specs.Answers.{launch_answer}
use Rattle.late_launch.specs.Boards.{fused_device}
use Rattle.flk_base.specs.Plan.{ask}
use Rattle.seal_device.specs.Commands.{Measure}
use Rattle.seal_device.specs.Digests.{on_device}
use Rattle.late_launch.proofs.RegionLemmas.{inside_memory}
use Rattle.late_launch.proofs.SessionLemmas.{launch_answered, measured_so}
use Rattle.late_launch.proofs.suspended.Suspended.launch.Goals as goal

pub returns-in-Ok : goal.returns-in-Ok
returns-in-Ok c =
    let memory_is = c.part-device.ensures.memory in
    let bytes = rw memory_is at c.region.ensures.bytes in
    let bytes_again = rw (c.guard.ensures, memory_is) at c.region-2.ensures.bytes in
    let inside = inside_memory c.self.inside.board.memory c.self.inside.area (rw memory_is at c.frame_law.ensures) c.self.invariant in
    let host : SuspendedParts = record { board = c.self.inside.board; area = c.self.inside.area } in
    let start = rw c.entry-entry.ensures at c.start_registers.ensures in
    let found = rw bytes at c.in-Some.ensures.exact in
    let says = rw bytes at c.in-Some.ensures.image in
    let ends = measured_so _ (region_bytes host.board.memory host.area) _ host.board.device _ host.board.fuse _ _ bytes_again c.part-device.ensures.device c.part-device.ensures.fuse c.in-Ok.is c.measure.ensures in
    let answered = launch_answered host _ _ _ _ _ c.in-Some.image c.guard.new.self c.new-in-Ok.result
    inside (rw memory_is at c.guard.ensures) found says ends c.part-device.ensures.registers start c.new-in-Ok.ensures in
    answered ∙ ap (λ (h : SuspendedParts). launch_answer h (on_device (ask (Measure (image_in (region_bytes h.board.memory h.area)))) (fused_device h.board))) c.self.view_is
