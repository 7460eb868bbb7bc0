use Rattle.std.proofs.Common.{◌≡◌, ◌∙◌, ap, sym, subst, Option, Result}
use Rattle.flk_base.specs.Plan.{ask}
use Rattle.region_pool.specs.Spans.{Span}
use Rattle.machine_memory.specs.Contents.{Contents, IsMemory}
use Rattle.machine_memory.specs.Writes.{part}
use Rattle.machine_memory.specs.Spans.{after_give}
use Rattle.machine_memory.specs.Areas.{IsArea}
use Rattle.seal_device.specs.Commands.{Measure}
use Rattle.flk_base.specs.Stop.{Fused}
use Rattle.slb_core.specs.Pal.{PalEnd}
use Rattle.seal_device.specs.Digests.{DigestDevice, on_device}
use Rattle.late_launch.specs.Boards.{BoardParts, fused_device}
use Rattle.late_launch.specs.Regions.{region_bytes, output_page}
use Rattle.late_launch.specs.States.{SuspendedParts, LaunchedParts, image_in}
use Rattle.late_launch.specs.declared.suspended.LaunchEnd.{LaunchEnd}
use Rattle.late_launch.specs.Answers.{launch_answer}
use Rattle.late_launch.proofs.RegionLemmas.{Inside, inside_memory}
use Rattle.slb_core.specs.Sessions.{serve_answer, LeavesWrites, CountsOutputs}
use Rattle.session_driver.proofs.Running.{whole, launched_so, served_lost, lost_beside, closed_area, served_done, done_beside}
use Rattle.session_driver.proofs.driver.run_in.Goals as goal

-- what a launch answers, by the host
abbrev answer : SuspendedParts → Result LaunchedParts LaunchEnd
answer h = launch_answer h (on_device (ask (Measure (image_in (region_bytes h.board.memory h.area)))) (fused_device h.board))

pub returns-in-Err-clause-answer : goal.returns-in-Err-clause-answer
returns-in-Err-clause-answer c =
    let so = launched_so c.args.board c.args.area c.args.count c.args.nonce.now c.args.dma.now c.in-Ok.launched c.requires.image (sym (c.launch.ensures ∙ ap answer c.suspend.ensures) ∙ c.in-Ok.is) in
    served_lost c.args.board c.args.area c.args.count c.args.nonce.now c.args.dma.now c.serve.new.dma c.in-Ok.launched (whole c.args.board c.args.area c.args.count c.args.nonce.now c.args.dma.now) c.in-Err.dark
    so.around_is so.area_is (sym (c.serve.ensures.answer ∙ ap (serve_answer c.in-Ok.launched) so.served) ∙ c.in-Err.is)

pub returns-in-Err-clause-beside : goal.returns-in-Err-clause-beside
returns-in-Err-clause-beside c =
    let so = launched_so c.args.board c.args.area c.args.count c.args.nonce.now c.args.dma.now c.in-Ok.launched c.requires.image (sym (c.launch.ensures ∙ ap answer c.suspend.ensures) ∙ c.in-Ok.is) in
    lost_beside c.args.board c.args.area c.args.count c.args.nonce.now c.args.dma.now c.serve.new.dma c.in-Ok.launched (whole c.args.board c.args.area c.args.count c.args.nonce.now c.args.dma.now) c.in-Err.dark c.args.out.now
    (sym (c.serve.ensures.answer ∙ ap (serve_answer c.in-Ok.launched) so.served) ∙ c.in-Err.is) c.requires.blank

pub returns-in-Err-clause-outputs : goal.returns-in-Err-clause-outputs
returns-in-Err-clause-outputs c =
    let so = launched_so c.args.board c.args.area c.args.count c.args.nonce.now c.args.dma.now c.in-Ok.launched c.requires.image (sym (c.launch.ensures ∙ ap answer c.suspend.ensures) ∙ c.in-Ok.is) in
    subst CountsOutputs so.served c.serve.ensures.outputs

pub returns-in-Ok-serve-clause-answer : goal.returns-in-Ok-serve-clause-answer
returns-in-Ok-serve-clause-answer c =
    let so = launched_so c.args.board c.args.area c.args.count c.args.nonce.now c.args.dma.now c.in-Ok.launched c.requires.image (sym (c.launch.ensures ∙ ap answer c.suspend.ensures) ∙ c.in-Ok.is) in
    let ended = whole c.args.board c.args.area c.args.count c.args.nonce.now c.args.dma.now in
    let closed = c.in-Ok-serve.closed in
    let closed_is = sym (c.serve.ensures.answer ∙ ap (serve_answer c.in-Ok.launched) so.served) ∙ c.in-Ok-serve.is in
    let board_is = c.board.view_is ∙ c.resume-board.ensures.board in
    let memory_is : c.board.inside.memory ≡ closed.memory = ap (λ (b : BoardParts). b.memory) board_is in
    let area_is = c.resume-board.ensures.area ∙ closed_area c.args.board c.args.area c.args.count c.args.nonce.now c.args.dma.now c.serve.new.dma c.in-Ok.launched ended closed so.area_is closed_is in
    let held = subst (λ (a : Span). IsArea c.resume-board.result.0.memory.marks a) area_is c.resume-board.ensures.held in
    let inside : Inside closed.memory c.args.area = inside_memory closed.memory c.args.area (subst IsMemory memory_is c.frame_law.ensures) (subst (λ (b : BoardParts). IsArea b.memory.marks c.args.area) c.resume-board.ensures.board held) in
    served_done c.args.board c.args.area c.args.count c.args.nonce.now c.args.dma.now c.serve.new.dma c.in-Ok.launched ended closed c.board.inside.device c.give_wiped.new.self c.board.inside.registers c.board.inside.fuse.left c.end-end.result c.turns-turns.result
    so.around_is so.area_is so.saved closed_is (ap (λ (b : BoardParts). b.device) board_is) (ap (λ (b : BoardParts). b.registers) board_is) (ap (λ (b : BoardParts). b.fuse) board_is)
    c.end-end.ensures c.turns-turns.ensures c.requires.placed.frames inside (subst CountsOutputs so.served c.serve.ensures.outputs)
    (c.give_wiped.ensures.given ∙ ap (λ (m : Contents). after_give m c.resume-board.result.1) memory_is ∙ ap (after_give closed.memory) area_is)

pub returns-in-Ok-serve-clause-beside : goal.returns-in-Ok-serve-clause-beside
returns-in-Ok-serve-clause-beside c =
    let so = launched_so c.args.board c.args.area c.args.count c.args.nonce.now c.args.dma.now c.in-Ok.launched c.requires.image (sym (c.launch.ensures ∙ ap answer c.suspend.ensures) ∙ c.in-Ok.is) in
    let ended = whole c.args.board c.args.area c.args.count c.args.nonce.now c.args.dma.now in
    let closed = c.in-Ok-serve.closed in
    let closed_is = sym (c.serve.ensures.answer ∙ ap (serve_answer c.in-Ok.launched) so.served) ∙ c.in-Ok-serve.is in
    let board_is = c.board.view_is ∙ c.resume-board.ensures.board in
    let memory_is : c.board.inside.memory ≡ closed.memory = ap (λ (b : BoardParts). b.memory) board_is in
    let area_is = c.resume-board.ensures.area ∙ closed_area c.args.board c.args.area c.args.count c.args.nonce.now c.args.dma.now c.serve.new.dma c.in-Ok.launched ended closed so.area_is closed_is in
    let held = subst (λ (a : Span). IsArea c.resume-board.result.0.memory.marks a) area_is c.resume-board.ensures.held in
    let inside : Inside closed.memory c.args.area = inside_memory closed.memory c.args.area (subst IsMemory memory_is c.frame_law.ensures) (subst (λ (b : BoardParts). IsArea b.memory.marks c.args.area) c.resume-board.ensures.board held) in
    done_beside c.args.board c.args.area c.args.count c.args.nonce.now c.args.dma.now c.serve.new.dma c.in-Ok.launched ended closed c.read_outputs.new.out
    so.area_is closed_is (subst (λ (x : Fused DigestDevice × Option PalEnd). LeavesWrites x c.serve.new.dma) so.served c.serve.ensures.writes) (subst CountsOutputs so.served c.serve.ensures.outputs) inside
    (c.read_outputs.ensures ∙ ap (λ (m : Contents). part m.bytes (output_page c.resume-board.result.1) 4096) memory_is ∙ ap (λ (a : Span). part closed.memory.bytes (output_page a) 4096) area_is)

pub returns-in-Ok-serve-clause-outputs : goal.returns-in-Ok-serve-clause-outputs
returns-in-Ok-serve-clause-outputs c =
    let so = launched_so c.args.board c.args.area c.args.count c.args.nonce.now c.args.dma.now c.in-Ok.launched c.requires.image (sym (c.launch.ensures ∙ ap answer c.suspend.ensures) ∙ c.in-Ok.is) in
    subst CountsOutputs so.served c.serve.ensures.outputs
