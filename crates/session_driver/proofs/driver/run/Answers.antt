use Rattle.std.proofs.Common.{◌≡◌, ◌∙◌, ap, sym, subst, refl, arith, ℕ, length, List, Option, Some, None, Result, Err, false}
use Rattle.std.specs.Prelude.{MatchOption}
use Rattle.std.proofs.lemmas.Bool.{false≢true}
use Rattle.flk_base.specs.Stop.{Fused}
use Rattle.region_pool.specs.declared.mark.Mark.{Mark}
use Rattle.region_pool.specs.Places.{HasNoPlace, IsLowestPlace}
use Rattle.flk_base.specs.Plan.{Plan}
use Rattle.region_pool.specs.Spans.{Span}
use Rattle.region_pool.specs.Places.{place}
use Rattle.region_pool.proofs.PlaceLemmas.{place-lowest, place-none, place-cases}
use Rattle.machine_memory.specs.Contents.{Contents}
use Rattle.machine_memory.specs.Spans.{after_take}
use Rattle.seal_device.specs.Commands.{Command, Reply}
use Rattle.seal_device.specs.Digests.{DigestDevice, on_device}
use Rattle.late_launch.specs.Boards.{BoardParts, DarkParts, fused_device}
use Rattle.late_launch.specs.Regions.{region_bytes}
use Rattle.late_launch.specs.States.{has_image}
use Rattle.slb_core.specs.Pal.{PalEnd}
use Rattle.session_driver.specs.declared.driver.SessionEnd.{SessionEnd}
use Rattle.session_driver.specs.Sessions.{area_at}
use Rattle.session_driver.specs.Filled.{filled, plan_at, answer_at}
use Rattle.session_driver.specs.Answers.{RunsAt, is_out_of_memory}
use Rattle.session_driver.specs.Answers.{placed, answer_of, ended_leaves, LeavesBeside, ran_at}
use Rattle.session_driver.proofs.Filling.{same_area, image_short, filled_board, holds, same_plan, same_answer}
use Rattle.session_driver.proofs.driver.run.Goals as goal

pub returns-in-Err-NoRoom-clause-answer : goal.returns-in-Err-NoRoom-clause-answer
returns-in-Err-NoRoom-clause-answer c = λ _.
    let none = place-none c.board.inside.memory.marks 18 16 (omega arith) (c.in-Err-NoRoom.ensures.no_room.0 (ap Err c.in-Err-NoRoom.field-0-is)) in
    rw (← c.board.view_is, none, c.in-Err-NoRoom.ensures.unchanged) refl

pub returns-in-Err-NoRoom-clause-beside : goal.returns-in-Err-NoRoom-clause-beside
returns-in-Err-NoRoom-clause-beside c = λ _.
    let none = place-none c.board.inside.memory.marks 18 16 (omega arith) (c.in-Err-NoRoom.ensures.no_room.0 (ap Err c.in-Err-NoRoom.field-0-is)) in
    rw (← c.board.view_is, none) (record { armed = refl; outputs = c.requires.blank })

-- where there is a place, a session would run
place_found : (marks : List Mark) (found : Option ℕ) → MatchOption found (HasNoPlace marks 18 16) (IsLowestPlace marks 18 16) → ¬ HasNoPlace marks 18 16
    → (first : ℕ) × (placed found ≡ RunsAt first)
place_found marks None m some = absurd (some m)
place_found marks (Some first) m some = (first, refl)

pub returns-in-Err-NoMemory-clause-memory : goal.returns-in-Err-NoMemory-clause-memory
returns-in-Err-NoMemory-clause-memory c = λ _.
    let marks = c.board.inside.memory.marks in
    let found = place_found marks (place marks 18 16) (place-cases marks 18 16 (omega arith))
    (λ none. let clash = c.in-Err-NoMemory.ensures.no_room.1 none in cc) in
    rw (← c.board.view_is) (record {
      first = found.0;
      runs = found.1;
      answer = rw c.in-Err-NoMemory.ensures.unchanged refl;
      leaves = record { armed = refl; outputs = c.requires.blank };
    })

-- a session that was run has an end
ran-answer_at : (board : BoardParts) (area : Span) (ran : Fused DigestDevice × Option PalEnd) → is_out_of_memory (answer_at board area ran) ≡ false
ran-answer_at board area (before, None) = refl
ran-answer_at board area (after, Some ended) = refl

pub returns-in-Ok-clause-memory : goal.returns-in-Ok-clause-memory
returns-in-Ok-clause-memory c = λ wants.
    let board : BoardParts = record { device = c.board.inside.device; memory = c.board.inside.memory; registers = c.board.inside.registers; fuse = c.board.inside.fuse.left } in
    let memory = c.fill.new.memory in
    let area = c.in-Ok.area in
    let ran = on_device (plan_at memory area (length c.args.inputs.now) c.args.nonce.now c.args.dma.now) (fused_device board) in
    let ended : is_out_of_memory c.run_in.result ≡ false =
    ap is_out_of_memory c.run_in.ensures.answer ∙ ran-answer_at (record board { memory = memory }) area ran in
    absurd (false≢true (sym ended ∙ wants))

pub fill-requires-clause-image : goal.fill-requires-clause-image
fill-requires-clause-image c = image_short c.args.image.now c.requires.image

pub run_in-requires-clause-image : goal.run_in-requires-clause-image
run_in-requires-clause-image c =
    let board : BoardParts = record { device = c.board.inside.device; memory = c.board.inside.memory; registers = c.board.inside.registers; fuse = c.board.inside.fuse.left } in
    let area = c.in-Ok.area in
    let area_is = same_area area c.in-Ok.ensures.frames c.in-Ok.ensures.purpose in
    let memory_is = c.fill.ensures ∙ ap (λ (m : Contents). filled m area c.args.image.now c.args.inputs.now) c.in-Ok.ensures.taken
    ∙ ap (λ (a : Span). filled (after_take board.memory a) a c.args.image.now c.args.inputs.now) area_is in
    let held = holds board area.first c.frame_law.ensures c.in-Ok.ensures.lowest.place c.args.image.now c.args.inputs.now c.requires.image c.requires.short in
    ap (λ (m : Contents). has_image (region_bytes m area)) memory_is
    ∙ ap (λ (a : Span). has_image (region_bytes (filled (after_take board.memory (area_at area.first)) (area_at area.first) c.args.image.now c.args.inputs.now) a)) area_is
    ∙ held.found

pub returns-in-Ok-clause-answer : goal.returns-in-Ok-clause-answer
returns-in-Ok-clause-answer c = λ _.
    let board : BoardParts = record { device = c.board.inside.device; memory = c.board.inside.memory; registers = c.board.inside.registers; fuse = c.board.inside.fuse.left } in
    let image = c.args.image.now in
    let inputs = c.args.inputs.now in
    let nonce = c.args.nonce.now in
    let writes = c.args.dma.now in
    let area = c.in-Ok.area in
    let area_is = same_area area c.in-Ok.ensures.frames c.in-Ok.ensures.purpose in
    let memory_is = c.fill.ensures ∙ ap (λ (m : Contents). filled m area image inputs) c.in-Ok.ensures.taken
    ∙ ap (λ (a : Span). filled (after_take board.memory a) a image inputs) area_is in
    let place_is = place-lowest board.memory.marks 18 16 area.first (omega arith) c.in-Ok.ensures.lowest in
    let full = (filled_board board area.first c.frame_law.ensures c.in-Ok.ensures.lowest.place image inputs c.requires.image c.requires.short).memory in
    let at : Contents → Span → Result (BoardParts × SessionEnd) DarkParts = λ m a. answer_at (record board { memory = m }) a (on_device (plan_at m a (length inputs) nonce writes) (fused_device board)) in
    c.run_in.ensures.answer
    ∙ ap (λ (m : Contents). at m area) memory_is
    ∙ ap (λ (a : Span). at full a) area_is
    ∙ ap (λ (plan : Plan Command Reply PalEnd). answer_at (record board { memory = full }) (area_at area.first) (on_device plan (fused_device board)))
    (same_plan board area.first c.frame_law.ensures c.in-Ok.ensures.lowest.place image inputs c.requires.image c.requires.short (length inputs) nonce writes refl)
    ∙ same_answer board area.first c.frame_law.ensures c.in-Ok.ensures.lowest.place image inputs c.requires.image c.requires.short (ran_at board area.first image inputs nonce writes)
    ∙ ap (λ (o : Option ℕ). answer_of board image inputs nonce writes (placed o)) (sym place_is)
    ∙ ap (λ (b : BoardParts). answer_of b image inputs nonce writes (placed (place b.memory.marks 18 16))) c.board.view_is

pub returns-in-Ok-clause-beside : goal.returns-in-Ok-clause-beside
returns-in-Ok-clause-beside c = λ _.
    let board : BoardParts = record { device = c.board.inside.device; memory = c.board.inside.memory; registers = c.board.inside.registers; fuse = c.board.inside.fuse.left } in
    let image = c.args.image.now in
    let inputs = c.args.inputs.now in
    let nonce = c.args.nonce.now in
    let writes = c.args.dma.now in
    let area = c.in-Ok.area in
    let area_is = same_area area c.in-Ok.ensures.frames c.in-Ok.ensures.purpose in
    let memory_is = c.fill.ensures ∙ ap (λ (m : Contents). filled m area image inputs) c.in-Ok.ensures.taken
    ∙ ap (λ (a : Span). filled (after_take board.memory a) a image inputs) area_is in
    let place_is = place-lowest board.memory.marks 18 16 area.first (omega arith) c.in-Ok.ensures.lowest in
    let full = (filled_board board area.first c.frame_law.ensures c.in-Ok.ensures.lowest.place image inputs c.requires.image c.requires.short).memory in
    let at : Contents → Span → Type 0 = λ m a. ended_leaves (on_device (plan_at m a (length inputs) nonce writes) (fused_device board)) c.run_in.new.dma c.run_in.new.out in
    let by_memory = subst (λ (m : Contents). at m area) memory_is c.run_in.ensures.beside in
    let by_area = subst (λ (a : Span). at full a) area_is by_memory in
    let by_plan = subst (λ (plan : Plan Command Reply PalEnd). ended_leaves (on_device plan (fused_device board)) c.run_in.new.dma c.run_in.new.out)
    (same_plan board area.first c.frame_law.ensures c.in-Ok.ensures.lowest.place image inputs c.requires.image c.requires.short (length inputs) nonce writes refl) by_area in
    let by_place = subst (λ (o : Option ℕ). LeavesBeside board image inputs nonce writes (placed o) c.run_in.new.dma c.run_in.new.out) (sym place_is) by_plan in
    subst (λ (b : BoardParts). LeavesBeside b image inputs nonce writes (placed (place b.memory.marks 18 16)) c.run_in.new.dma c.run_in.new.out) c.board.view_is by_place
