-- Sessions of which some parts are the same.
use Rattle.std.proofs.Common.{◌≡◌, ◌≤◌, ℕ, List, length, refl, sym, ap, subst, ◌∙◌, arith, true, Option, Some, None, Result, Ok, Err}
use Rattle.flk_base.specs.declared.fuse.PowerLost.{PowerLost}
use Rattle.flk_base.specs.Stop.{Limit, Fused, with_fuse, Ends, or_lost}
use Rattle.i386_profile.specs.declared.cpu.Cpu.{Cpu}
use Rattle.region_pool.specs.Spans.{Span}
use Rattle.flk_base.specs.Plan.{ask}
use Rattle.seal_device.specs.Commands.{Measure}
use Rattle.seal_device.specs.Digests.{DigestDevice, on_device}
use Rattle.seal_device.specs.Faults.{power_lost}
use Rattle.machine_memory.specs.Writes.{written}
use Rattle.machine_memory.specs.Contents.{Contents, first_byte}
use Rattle.machine_memory.specs.Areas.{region_frames, guarded}
use Rattle.machine_memory.proofs.Pieces.{refill-long, writes-written}
use Rattle.slb_image.specs.Image.{Image, IsImageOf}
use Rattle.slb_image.specs.Fields.{image_of}
use Rattle.late_launch.specs.declared.ends.End.{End}
use Rattle.late_launch.specs.declared.suspended.LaunchEnd.{LaunchEnd}
use Rattle.late_launch.specs.Regions.{inputs_offset, around, region_bytes, with_outputs}
use Rattle.late_launch.specs.States.{SuspendedParts, LaunchedParts, image_in, has_image, start_registers, launched, session_device}
use Rattle.late_launch.specs.Answers.{launch_answer, close_answer}
use Rattle.late_launch.specs.Lending.{after_loan}
use Rattle.late_launch.proofs.RegionLemmas.{Inside, region_size_is, around_guarded}
use Rattle.late_launch.proofs.ImageLemmas.{image_says}

-- sessions with the same memory around the region, and the same region
pub same_session : (saved start : Cpu) (device : DigestDevice) (fuse : Limit) (area : Span) (around around' : Contents) (region region' : List ℕ) → around ≡ around' → region ≡ region'
    → ◌≡◌ {A = LaunchedParts} (record { saved = saved; around = around; region = region; device = device; fuse = fuse; area = area; start = start })
    (record { saved = saved; around = around'; region = region'; device = device; fuse = fuse; area = area; start = start })
same_session saved start device fuse area around around' region region' a r = rw (a, r) refl

-- inputs that came back in the region that was lent
pub inputs_taken : (session : LaunchedParts) (back inputs taken : List ℕ) → length session.region ≡ 65536 → length inputs ≤ 4096
    → back ≡ written session.region inputs_offset inputs → inputs ≡ taken
    → after_loan session back ≡ record session { region = written session.region inputs_offset taken }
inputs_taken session back inputs taken long few is same =
    let size = region_size_is in
    let w = writes-written session.region inputs_offset inputs (omega arith) in
    let w_long = w.long in
    let back_long : length back ≡ first_byte region_frames = ap (λ (xs : List ℕ). length xs) is ∙ (let e : length (written session.region inputs_offset inputs) ≡ first_byte region_frames = omega arith in e) in
    ap (λ (region : List ℕ). record session { region = region })
    (refill-long (first_byte region_frames) session.region back back_long ∙ is ∙ ap (λ (xs : List ℕ). written session.region inputs_offset xs) same)

-- the four closing extends were made
pub close_done : (session : LaunchedParts) (end : End) (turns : ℕ) (outputs : List ℕ) (ended : Fused DigestDevice × Option (Unit {0})) (after : Fused DigestDevice) (memory : Contents)
    → Ends (or_lost power_lost) ended after (Ok tt) → memory ≡ with_outputs session.around session.area outputs
    → Ok (record { saved = session.saved; memory = memory; device = after.state; fuse = after.fuse; area = session.area; end = end; turns = turns }) ≡ close_answer session end turns outputs ended
close_done session end turns outputs (state, None) after memory ends is = absurd (let clash : ◌≡◌ {A = Result (Unit {0}) PowerLost} (Ok tt) (Err power_lost) = ends.1 in cc)
close_done session end turns outputs (state, Some done) after memory ends is = rw (is, ends.0) refl

-- the image was measured
pub launch_done : (host : SuspendedParts) (measured : Fused DigestDevice × Option (Unit {0})) (after : Fused DigestDevice)
    → has_image (region_bytes host.board.memory host.area) ≡ true → Ends (or_lost power_lost) measured after (Ok tt)
    → launch_answer host measured ≡ Ok (launched host after)
launch_done host (state, None) after found ends = absurd (let clash : ◌≡◌ {A = Result (Unit {0}) PowerLost} (Ok tt) (Err power_lost) = ends.1 in cc)
launch_done host (state, Some done) after found ends = rw (found, ends.0) refl

-- the four closing extends were made, and changed the device and its fuse alone
pub close_answered : (before after : LaunchedParts) (end : End) (turns : ℕ) (outputs : List ℕ) (ended : Fused DigestDevice × Option (Unit {0})) (memory : Contents)
    → after ≡ record before { device = after.device; fuse = after.fuse } → Ends (or_lost power_lost) ended (session_device after) (Ok tt)
    → memory ≡ with_outputs after.around after.area outputs
    → Ok (record { saved = after.saved; memory = memory; device = after.device; fuse = after.fuse; area = after.area; end = end; turns = turns }) ≡ close_answer before end turns outputs ended
close_answered before after end turns outputs ended memory same ends is =
    let saved : after.saved ≡ before.saved = ap (λ (s : LaunchedParts). s.saved) same in
    let area : after.area ≡ before.area = ap (λ (s : LaunchedParts). s.area) same in
    let around : after.around ≡ before.around = ap (λ (s : LaunchedParts). s.around) same in
    let memory_is : memory ≡ with_outputs before.around before.area outputs = rw (← around, ← area) is in
    rw (saved, area) (close_done before end turns outputs ended (session_device after) memory ends memory_is)

-- what a session starts with, once its image was measured with the region guarded
pub launch_answered : (host : SuspendedParts) (measured : Fused DigestDevice × Option (Unit {0})) (saved start : Cpu) (device : DigestDevice) (fuse : Limit) (image : Image) (shut : Contents) (session : LaunchedParts)
    → Inside host.board.memory host.area → shut ≡ guarded host.board.memory host.area
    → true ≡ has_image (region_bytes host.board.memory host.area) → IsImageOf image (image_in (region_bytes host.board.memory host.area))
    → Ends (or_lost power_lost) measured (with_fuse device fuse) (Ok tt)
    → saved ≡ host.board.registers → start ≡ start_registers image.entry
    → session ≡ record { saved = saved; around = around shut host.area; region = region_bytes shut host.area; device = device; fuse = fuse; area = host.area; start = start }
    → ◌≡◌ {A = Result LaunchedParts LaunchEnd} (Ok session) (launch_answer host measured)
launch_answered host measured saved start device fuse image shut session inside is found says ends kept begins session_is =
    let same : image_of (image_in (region_bytes host.board.memory host.area)) ≡ image = image_says image _ says in
    rw (session_is, begins, kept, is, launch_done host measured (with_fuse device fuse) (sym found) ends, same, around_guarded host.board.memory host.area inside) refl

-- a measurement that was made, of the same region by the same device
pub measured_so : (region other_region : List ℕ) (device other_device : DigestDevice) (fuse other_fuse : Limit) (after : Fused DigestDevice) (answer : Result (Unit {0}) PowerLost)
    → region ≡ other_region → device ≡ other_device → fuse ≡ other_fuse → answer ≡ Ok tt
    → Ends (or_lost power_lost) (on_device (ask (Measure (image_in region))) (with_fuse device fuse)) after answer
    → Ends (or_lost power_lost) (on_device (ask (Measure (image_in other_region))) (with_fuse other_device other_fuse)) after (Ok tt)
measured_so region other_region device other_device fuse other_fuse after answer r d f a ends =
    let by_region = subst (λ (x : List ℕ). Ends (or_lost power_lost) (on_device (ask (Measure (image_in x))) (with_fuse device fuse)) after answer) r ends in
    let by_device = subst (λ (x : DigestDevice). Ends (or_lost power_lost) (on_device (ask (Measure (image_in other_region))) (with_fuse x fuse)) after answer) d by_region in
    let by_fuse = subst (λ (x : Limit). Ends (or_lost power_lost) (on_device (ask (Measure (image_in other_region))) (with_fuse other_device x)) after answer) f by_device in
    subst (λ (x : Result (Unit {0}) PowerLost). Ends (or_lost power_lost) (on_device (ask (Measure (image_in other_region))) (with_fuse other_device other_fuse)) after x) a by_fuse
