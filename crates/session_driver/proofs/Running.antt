-- A session in an area: the launch, what it serves, and the resume.
use Rattle.std.proofs.Common.{◌≡◌, ◌≤◌, ◌+◌, ℕ, List, ◌++◌, length, replicate, take, drop, length-take, length-drop, length-append, sym, refl, ap, ◌∙◌, arith, true, Option, Some, None, Result, Ok, Err}
use Rattle.std.proofs.lemmas.List.{length-replicate, take-append-le, take-take, take_at, drop_at, append_assoc}
use Rattle.flk_base.specs.Plan.{ask}
use Rattle.flk_base.specs.Stop.{Limit, Fused, then_fused}
use Rattle.flk_base.specs.StopLaws.{fused-bind}
use Rattle.i386_profile.specs.declared.cpu.Cpu.{Cpu}
use Rattle.region_pool.specs.Spans.{Span}
use Rattle.machine_memory.specs.Writes.{part, written}
use Rattle.machine_memory.specs.Contents.{Contents, first_byte}
use Rattle.machine_memory.specs.Spans.{after_give}
use Rattle.machine_memory.specs.ArmedWrites.{Armed}
use Rattle.seal_device.specs.Commands.{Measure, act, costs}
use Rattle.seal_device.specs.Digests.{DigestDevice, digests, on_device}
use Rattle.late_launch.specs.declared.ends.End.{End}
use Rattle.late_launch.specs.declared.suspended.LaunchEnd.{LaunchEnd}
use Rattle.late_launch.specs.declared.suspended.LaunchEnd.TheVariants.{PowerLost}
use Rattle.late_launch.specs.Boards.{BoardParts, DarkParts, fused_device}
use Rattle.late_launch.specs.Regions.{region_bytes, around, output_page, page, with_outputs}
use Rattle.late_launch.specs.States.{SuspendedParts, LaunchedParts, ClosedParts, image_in, has_image, launched, session_device}
use Rattle.late_launch.specs.Answers.{launch_answer}
use Rattle.late_launch.proofs.RegionLemmas.{Inside, page_long}
use Rattle.slb_core.specs.Spans.{around_with}
use Rattle.slb_core.specs.Pal.{PalEnd}
use Rattle.slb_core.specs.Sessions.{serving, setting_of, serve_answer, LeavesWrites, CountsOutputs}
use Rattle.session_driver.specs.declared.driver.SessionEnd.{SessionEnd}
use Rattle.session_driver.specs.declared.driver.SessionEnd.TheVariants.{Ended}
use Rattle.session_driver.specs.Filled.{setting_at, plan_at, answer_at}
use Rattle.session_driver.specs.Answers.{no_outputs, ended_leaves}

-- a piece that a longer one covers, up to one end with it, is not seen
covered : (list piece longer : List ℕ) (at start : ℕ) → at ≤ length list → start ≤ at → at + length piece ≡ start + length longer → written (written list at piece) start longer ≡ written list start longer
covered list piece longer at start inside low same_end =
    let front : List ℕ = take at list ++ piece in
    let rest : List ℕ = drop (at + length piece) list in
    let at_long : length (take at list) ≡ at = omega (arith, length-take at list) in
    let front_long : length front ≡ start + length longer = omega (arith, length-append (take at list) piece) in
    let before : take start (front ++ rest) ≡ take start list =
    take-append-le start front rest (omega arith)
    ∙ take-append-le start (take at list) piece (omega arith)
    ∙ take-take start at list low in
    let after : drop (start + length longer) (front ++ rest) ≡ drop (start + length longer) list =
    drop_at front rest (start + length longer) front_long ∙ ap (λ (n : ℕ). drop n list) same_end in
    ap (λ (xs : List ℕ). xs ++ longer ++ drop (start + length longer) (front ++ rest)) before
    ∙ ap (λ (xs : List ℕ). take start list ++ longer ++ xs) after

-- the host whose session is launched
abbrev pub host : BoardParts → Span → SuspendedParts
host board area = record { board = board; area = area }

-- how measuring its image ends
abbrev pub measured : BoardParts → Span → Fused DigestDevice × Option (Unit {0})
measured board area = on_device (ask (Measure (image_in (region_bytes board.memory area)))) (fused_device board)

-- how the whole plan ends
abbrev pub whole : BoardParts → Span → ℕ → List ℕ → List Armed → Fused DigestDevice × Option PalEnd
whole board area count nonce writes = on_device (plan_at board.memory area count nonce writes) (fused_device board)

-- the whole plan, by how measuring ended
whole_is : (board : BoardParts) (area : Span) (count : ℕ) (nonce : List ℕ) (writes : List Armed)
    → whole board area count nonce writes ≡ then_fused costs (act digests) (λ done. serving (setting_at board.memory area) count nonce writes) (measured board area)
whole_is board area count nonce writes =
    fused-bind costs (act digests) (ask (Measure (image_in (region_bytes board.memory area)))) (λ done. serving (setting_at board.memory area) count nonce writes) (fused_device board)

-- ---- the power was lost before the image was measured

lost_answer : (board : BoardParts) (area : Span) (count : ℕ) (nonce : List ℕ) (writes : List Armed) (ended : Fused DigestDevice × Option (Unit {0})) (dark : DarkParts)
    → has_image (region_bytes board.memory area) ≡ true → launch_answer (host board area) ended ≡ Err (PowerLost dark)
    → ◌≡◌ {A = Result (BoardParts × SessionEnd) DarkParts} (Err dark) (answer_at board area (then_fused costs (act digests) (λ done. serving (setting_at board.memory area) count nonce writes) ended))
lost_answer board area count nonce writes (f, None) dark found is =
    let same : ◌≡◌ {A = Result LaunchedParts LaunchEnd} (Err (PowerLost _)) (Err (PowerLost dark)) = rw found at is in
    cc
lost_answer board area count nonce writes (f, Some done) dark found is =
    absurd (let clash : ◌≡◌ {A = Result LaunchedParts LaunchEnd} (Ok (launched (host board area) f)) (Err (PowerLost dark)) = rw found at is in cc)

pub launch_lost : (board : BoardParts) (area : Span) (count : ℕ) (nonce : List ℕ) (writes : List Armed) (dark : DarkParts)
    → has_image (region_bytes board.memory area) ≡ true → launch_answer (host board area) (measured board area) ≡ Err (PowerLost dark)
    → ◌≡◌ {A = Result (BoardParts × SessionEnd) DarkParts} (Err dark) (answer_at board area (whole board area count nonce writes))
launch_lost board area count nonce writes dark found is =
    lost_answer board area count nonce writes (measured board area) dark found is ∙ ap (answer_at board area) (sym (whole_is board area count nonce writes))

-- ---- the image was measured

-- a launched session, and how what it serves ends
pub record LaunchedSo (board : BoardParts) (area : Span) (count : ℕ) (nonce : List ℕ) (writes : List Armed) (session : LaunchedParts) (ended : Fused DigestDevice × Option PalEnd) : Type 0 where
  pub saved : session.saved ≡ board.registers
  pub around_is : session.around ≡ around board.memory area
  pub area_is : session.area ≡ area
  pub served : on_device (serving (setting_of session) count nonce writes) (session_device session) ≡ ended

launched_by : (board : BoardParts) (area : Span) (count : ℕ) (nonce : List ℕ) (writes : List Armed) (ended : Fused DigestDevice × Option (Unit {0})) (session : LaunchedParts)
    → has_image (region_bytes board.memory area) ≡ true → launch_answer (host board area) ended ≡ Ok session
    → LaunchedSo board area count nonce writes session (then_fused costs (act digests) (λ done. serving (setting_at board.memory area) count nonce writes) ended)
launched_by board area count nonce writes (f, None) session found is =
    absurd (let clash : ◌≡◌ {A = Result LaunchedParts LaunchEnd} (Err (PowerLost _)) (Ok session) = rw found at is in cc)
launched_by board area count nonce writes (f, Some done) session found is =
    let same : launched (host board area) f ≡ session = (let both : ◌≡◌ {A = Result LaunchedParts LaunchEnd} (Ok (launched (host board area) f)) (Ok session) = rw found at is in cc) in
    rw (← same) (record { saved = refl; around_is = refl; area_is = refl; served = refl })

pub launched_so : (board : BoardParts) (area : Span) (count : ℕ) (nonce : List ℕ) (writes : List Armed) (session : LaunchedParts)
    → has_image (region_bytes board.memory area) ≡ true → launch_answer (host board area) (measured board area) ≡ Ok session
    → LaunchedSo board area count nonce writes session (whole board area count nonce writes)
launched_so board area count nonce writes session found is =
    rw (whole_is board area count nonce writes) (launched_by board area count nonce writes (measured board area) session found is)

-- ---- what was served

-- the outputs are wiped with the area
given_back : (memory : Contents) (area : Span) (bytes outputs : List ℕ) → area.frames ≡ 18 → Inside (with_outputs (record memory { bytes = bytes }) area outputs) area → length outputs ≤ 4096
    → after_give (with_outputs (record memory { bytes = bytes }) area outputs) area ≡ after_give (record memory { bytes = bytes }) area
given_back memory area bytes outputs frames inside few =
    let fits = inside.bytes in
    let long = page_long outputs few in
    let zeros : length (replicate {A = ℕ} (first_byte area.frames) 0) ≡ 73728 = length-replicate {A = ℕ} (first_byte area.frames) 0 ∙ ap first_byte frames in
    let at : ℕ = output_page area in
    let there : at ≤ length bytes = omega (arith, length-append (take at bytes ++ page outputs) (drop (at + length (page outputs)) bytes), length-append (take at bytes) (page outputs), length-take at bytes, length-drop (at + length (page outputs)) bytes) in
    ap (λ (xs : List ℕ). record (after_give (record memory { bytes = bytes }) area) { bytes = xs })
    (covered bytes (page outputs) (replicate (first_byte area.frames) 0) at (first_byte area.first) there (omega arith) (omega arith))

-- a page that was written where the bytes before it stand
there_so : (bytes page : List ℕ) (at : ℕ) → length page ≡ 4096 → at + 4096 ≤ length (written bytes at page) → at ≤ length bytes
there_so bytes page at long fits =
    omega (arith, length-append (take at bytes ++ page) (drop (at + length page) bytes), length-append (take at bytes) page, length-take at bytes, length-drop (at + length page) bytes)

page_read : (bytes page : List ℕ) (at : ℕ) → length page ≡ 4096 → at ≤ length bytes → part (written bytes at page) at 4096 ≡ page
page_read bytes page at long there =
    let at_long : length (take at bytes) ≡ at = omega (arith, length-take at bytes) in
    ap (take 4096) (ap (drop at) (append_assoc (take at bytes) page (drop (at + length page) bytes)) ∙ drop_at (take at bytes) (page ++ drop (at + length page) bytes) at at_long)
    ∙ take_at page (drop (at + length page) bytes) 4096 long

module _ (board : BoardParts) (area : Span) (count : ℕ) (nonce : List ℕ) (writes left : List Armed) (session : LaunchedParts) where
  -- the power was lost
  pub served_lost : (ended : Fused DigestDevice × Option PalEnd) (dark : DarkParts) → session.around ≡ around board.memory area → session.area ≡ area → serve_answer session ended ≡ Err dark
      → ◌≡◌ {A = Result (BoardParts × SessionEnd) DarkParts} (Err dark) (answer_at board area ended)
  served_lost (f, None) dark around_is area_is is =
      let marks = ap (λ (m : Contents). m.marks) around_is in
      let same : ◌≡◌ {A = Result ClosedParts DarkParts} (Err _) (Err dark) = rw (marks, area_is) at is in
      cc
  served_lost (f, Some p) dark around_is area_is is =
      absurd (let clash : ◌≡◌ {A = Result ClosedParts DarkParts} (Ok _) (Err dark) = is in cc)

  pub lost_beside : (ended : Fused DigestDevice × Option PalEnd) (dark : DarkParts) (out : List ℕ) → serve_answer session ended ≡ Err dark → out ≡ no_outputs → ended_leaves ended left out
  lost_beside (f, None) dark out is blank = blank
  lost_beside (f, Some p) dark out is blank =
      absurd (let clash : ◌≡◌ {A = Result ClosedParts DarkParts} (Ok _) (Err dark) = is in cc)

  -- it ended in the session's area
  pub closed_area : (ended : Fused DigestDevice × Option PalEnd) (closed : ClosedParts) → session.area ≡ area → serve_answer session ended ≡ Ok closed → closed.area ≡ area
  closed_area (f, None) closed area_is is =
      absurd (let clash : ◌≡◌ {A = Result ClosedParts DarkParts} (Err _) (Ok closed) = is in cc)
  closed_area (f, Some p) closed area_is is =
      let same : ◌≡◌ {A = ClosedParts} (record { saved = session.saved; memory = with_outputs (around_with session p.outside.bytes) session.area p.outputs; device = f.state; fuse = f.fuse; area = session.area; end = p.end; turns = p.turns }) closed =
      (let both : ◌≡◌ {A = Result ClosedParts DarkParts} (Ok _) (Ok closed) = is in cc) in
      sym (ap (λ (x : ClosedParts). x.area) same) ∙ area_is

  -- it ended
  pub served_done : (ended : Fused DigestDevice × Option PalEnd) (closed : ClosedParts) (device : DigestDevice) (memory : Contents) (registers : Cpu) (fuse : Limit) (end : End) (turns : ℕ)
      → session.around ≡ around board.memory area → session.area ≡ area → session.saved ≡ board.registers → serve_answer session ended ≡ Ok closed
      → device ≡ closed.device → registers ≡ closed.saved → fuse ≡ closed.fuse → end ≡ closed.end → turns ≡ closed.turns
      → area.frames ≡ 18 → Inside closed.memory area → CountsOutputs ended → memory ≡ after_give closed.memory area
      → ◌≡◌ {A = Result (BoardParts × SessionEnd) DarkParts} (Ok (record { device = device; memory = memory; registers = registers; fuse = fuse }, Ended end turns)) (answer_at board area ended)
  served_done (f, None) closed device memory registers fuse end turns around_is area_is saved is d r u e t frames inside few m =
      absurd (let clash : ◌≡◌ {A = Result ClosedParts DarkParts} (Err _) (Ok closed) = is in cc)
  served_done (f, Some p) closed device memory registers fuse end turns around_is area_is saved is d r u e t frames inside few m =
      let same : ◌≡◌ {A = ClosedParts} (record { saved = session.saved; memory = with_outputs (around_with session p.outside.bytes) session.area p.outputs; device = f.state; fuse = f.fuse; area = session.area; end = p.end; turns = p.turns }) closed =
      (let both : ◌≡◌ {A = Result ClosedParts DarkParts} (Ok _) (Ok closed) = is in cc) in
      let closed_memory : with_outputs (around_with session p.outside.bytes) session.area p.outputs ≡ closed.memory = ap (λ (x : ClosedParts). x.memory) same in
      let there : Inside (with_outputs (record (around board.memory area) { bytes = p.outside.bytes }) area p.outputs) area = rw (← closed_memory, around_is, area_is) at inside in
      let memory_is : memory ≡ after_give (with_outputs (record (around board.memory area) { bytes = p.outside.bytes }) area p.outputs) area = m ∙ rw (← closed_memory, around_is, area_is) refl in
      rw (d, r, u, e, t, ← same, saved, memory_is, given_back (around board.memory area) area p.outside.bytes p.outputs frames there few.1) refl

  -- and left the outputs, and the armed writes
  pub done_beside : (ended : Fused DigestDevice × Option PalEnd) (closed : ClosedParts) (out : List ℕ)
      → session.area ≡ area → serve_answer session ended ≡ Ok closed → LeavesWrites ended left → CountsOutputs ended → Inside closed.memory area
      → out ≡ part closed.memory.bytes (output_page area) 4096 → ended_leaves ended left out
  done_beside (f, None) closed out area_is is writes few inside read =
      absurd (let clash : ◌≡◌ {A = Result ClosedParts DarkParts} (Err _) (Ok closed) = is in cc)
  done_beside (f, Some p) closed out area_is is writes few inside read =
      let same : ◌≡◌ {A = ClosedParts} (record { saved = session.saved; memory = with_outputs (around_with session p.outside.bytes) session.area p.outputs; device = f.state; fuse = f.fuse; area = session.area; end = p.end; turns = p.turns }) closed =
      (let both : ◌≡◌ {A = Result ClosedParts DarkParts} (Ok _) (Ok closed) = is in cc) in
      let bytes_are : closed.memory.bytes ≡ written p.outside.bytes (output_page area) (page p.outputs) = rw (← same, area_is) refl in
      let fits = inside.bytes in
      let long = page_long p.outputs few.1 in
      let there : output_page area ≤ length p.outside.bytes = there_so p.outside.bytes (page p.outputs) (output_page area) long (omega (arith, ap (λ (xs : List ℕ). length xs) bytes_are)) in
      record { count = few.0; armed = writes; outputs = read ∙ rw bytes_are (page_read p.outside.bytes (page p.outputs) (output_page area) long there) }
