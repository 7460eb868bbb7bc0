-- A session: what runs, and then the closing extends.
use Rattle.std.proofs.Common.{◌≡◌, ℕ, zero, suc, List, length, take, drop, length-take, length-drop, length-append, ◌++◌, ◌+◌, ◌≤◌, sym, refl, ap, subst, ◌∙◌, arith, Bool, true, false, Option, Some, None, Result, Ok, Err}
use Rattle.flk_base.specs.declared.fuse.PowerLost.{PowerLost}
use Rattle.flk_base.specs.Plan.{Plan, Return, Ask, run}
use Rattle.flk_base.specs.Stop.{Limit, Fused, spent, ask_if, limited, then_fused, end_of}
use Rattle.flk_base.specs.StopLaws.{fused-bind}
use Rattle.i386_profile.specs.declared.cpu.Cpu.{Cpu}
use Rattle.slb_image.specs.Fields.{image_of}
use Rattle.machine_memory.specs.Contents.{Contents}
use Rattle.machine_memory.specs.Writes.{part, written}
use Rattle.machine_memory.specs.ArmedWrites.{Armed}
use Rattle.seal_device.specs.Commands.{Command, Reply, act, costs}
use Rattle.seal_device.specs.Digests.{DigestDevice, digests, on_device}
use Rattle.seal_device.specs.Faults.{power_lost}
use Rattle.late_launch.specs.declared.ends.End.{End}
use Rattle.late_launch.specs.Boards.{DarkParts}
use Rattle.late_launch.specs.Ends.{closing, extend_each}
use Rattle.late_launch.specs.States.{LaunchedParts, ClosedParts, image_in, session_device, lost}
use Rattle.late_launch.proofs.Apart.{part-written}
use Rattle.late_launch.specs.Answers.{close_answer}
use Rattle.slb_core.specs.Pal.{PalEnd}
use Rattle.slb_core.specs.Reports.{count_of, AreOutputs, PalEnds, IsLater, start_in}
use Rattle.slb_core.specs.Sessions.{first_outside, inputs_in, first_registers, setting_of, begun, runs, runs_image, closes, serving, serve_answer, LeavesWrites, CountsOutputs}
use Rattle.slb_core.specs.Spans.{around_with}
use Rattle.slb_core.specs.declared.pal.Ended.{Ended}

-- where a plan is cut, no step of the fuse is left

abbrev CutAtZero : {X : Type 0} → Fused DigestDevice × Option X → Type 0
CutAtZero {X} ended = ended.1 ≡ None → ended.0.fuse ≡ Some 0

by_cost : {X : Type 0} (c : Command) (next : Reply c → Plan Command Reply X) (d : DigestDevice)
    → ((left : Limit) → CutAtZero (end_of (run (act digests) (limited costs (next (act digests c d).1) left) (act digests c d).0)))
    → (paid : Bool) (left : Limit) → CutAtZero (end_of (run (act digests) (ask_if c left (λ less reply. limited costs (next reply) less) (spent paid left)) d))
by_cost c next d again false left e = again left e
by_cost c next d again true None e = again None e
by_cost c next d again true (Some zero) e = refl
by_cost c next d again true (Some (suc n)) e = again (Some n) e

cut_so : {X : Type 0} (p : Plan Command Reply X) (left : Limit) (d : DigestDevice) → CutAtZero (end_of (run (act digests) (limited costs p left) d))
cut_so {X} (Return x) left d e = absurd (let clash : ◌≡◌ {A = Option X} (Some x) None = e in cc)
cut_so (Ask c next) left d e = by_cost c next d (λ less. cut_so (next (act digests c d).1) less (act digests c d).0) (costs c) left e

pub cut_at_zero : {X : Type 0} (p : Plan Command Reply X) (before : Fused DigestDevice) → (on_device p before).1 ≡ None → (on_device p before).0.fuse ≡ Some 0
cut_at_zero p before e = cut_so p before.fuse before.state e

-- the power was lost before the code ended
pub pal_cut : (ended : Fused DigestDevice × Option PalEnd) (before after : LaunchedParts) (writes : List Armed) (outputs : List ℕ)
    → PalEnds ended before after writes outputs (Err power_lost) → ended.1 ≡ None
pal_cut (f, None) before after writes outputs e = refl
pal_cut (f, Some p) before after writes outputs e =
    absurd (let clash : ◌≡◌ {A = Result Ended PowerLost} (Err power_lost) (Ok (record { end = p.end; turns = p.turns })) = e.answers.0 in cc)

-- what a machine keeps that loses its power in a session
same_lost : (launched after : LaunchedParts) (device : DigestDevice) → after.area ≡ launched.area → after.around.marks ≡ launched.around.marks → lost after device ≡ lost launched device
same_lost launched after device area marks = rw (area, marks) refl

module _ (launched before after : LaunchedParts) (since : IsLater launched before) (writes : List Armed) (outputs : List ℕ) where
  later_area : IsLater before after → after.area ≡ launched.area
  later_area later = later.area ∙ since.area

  later_marks : IsLater before after → after.around.marks ≡ launched.around.marks
  later_marks later = ap (λ (m : Contents). m.marks) later.around ∙ ap (λ (m : Contents). m.marks) since.around

  later_around : IsLater before after → after.around ≡ around_with launched after.around.bytes
  later_around later = later.around ∙ ap (λ (m : Contents). record m { bytes = after.around.bytes }) since.around

  pub serve_lost : (rest : PalEnd → Plan Command Reply PalEnd) (ended : Fused DigestDevice × Option PalEnd) → PalEnds ended before after writes outputs (Err power_lost)
      → ◌≡◌ {A = Result ClosedParts DarkParts} (Err (lost after after.device)) (serve_answer launched (then_fused costs (act digests) rest ended))
  serve_lost rest (f, None) e =
      let device : after.device ≡ f.state = ap (λ (d : Fused DigestDevice). d.state) e.device in
      rw (same_lost launched after after.device (later_area e.later) (later_marks e.later), device) refl
  serve_lost rest (f, Some p) e =
      absurd (let clash : ◌≡◌ {A = Result Ended PowerLost} (Err power_lost) (Ok (record { end = p.end; turns = p.turns })) = e.answers.0 in cc)

  pub lost_leaves : (rest : PalEnd → Plan Command Reply PalEnd) (ended : Fused DigestDevice × Option PalEnd) (any : List Armed) → PalEnds ended before after writes outputs (Err power_lost)
      → LeavesWrites (then_fused costs (act digests) rest ended) any
  lost_leaves rest (f, None) any e = tt
  lost_leaves rest (f, Some p) any e =
      absurd (let clash : ◌≡◌ {A = Result Ended PowerLost} (Err power_lost) (Ok (record { end = p.end; turns = p.turns })) = e.answers.0 in cc)

  -- the closing extends were made, or the power was lost in them
  closed_so : (p : PalEnd) (end : End) (turns : ℕ) (given : List ℕ) (made : Fused DigestDevice × Option (Unit {0}))
      → IsLater before after → after.around.bytes ≡ p.outside.bytes → end ≡ p.end → turns ≡ p.turns → given ≡ p.outputs
      → close_answer after end turns given made ≡ serve_answer launched (then_fused costs (act digests) (λ done. Return p) made)
  closed_so p end turns given (g, None) later bytes same_end same_turns same_outputs = ap Err (same_lost launched after g.state (later_area later) (later_marks later))
  closed_so p end turns given (g, Some done) later bytes same_end same_turns same_outputs =
      rw (later_area later, later.saved ∙ since.saved, later_around later ∙ ap (λ (xs : List ℕ). around_with launched xs) bytes, same_end, same_turns, same_outputs) refl

  pub serve_done : (nonce : List ℕ) (inputs taken given : List ℕ) (end : End) (turns : ℕ) (ended : Fused DigestDevice × Option PalEnd)
      → PalEnds ended before after writes outputs (Ok (record { end = end; turns = turns })) → inputs ≡ taken → given ≡ take (count_of end) outputs
      → close_answer after end turns given (on_device (extend_each (closing inputs given end nonce)) (session_device after))
      ≡ serve_answer launched (then_fused costs (act digests) (closes taken nonce) ended)
  serve_done nonce inputs taken given end turns (f, None) e inputs_are given_are =
      absurd (let clash : ◌≡◌ {A = Result Ended PowerLost} (Ok (record { end = end; turns = turns })) (Err power_lost) = e.answers in cc)
  serve_done nonce inputs taken given end turns (f, Some p) e inputs_are given_are =
      let is : ◌≡◌ {A = Result Ended PowerLost} (Ok (record { end = end; turns = turns })) (Ok (record { end = p.end; turns = p.turns })) = e.answers.0 in
      let both : ◌≡◌ {A = Ended} (record { end = end; turns = turns }) (record { end = p.end; turns = p.turns }) = cc in
      let same_end : end ≡ p.end = ap (λ (x : Ended). x.end) both in
      let same_turns : turns ≡ p.turns = ap (λ (x : Ended). x.turns) both in
      let same_outputs : given ≡ p.outputs = given_are ∙ ap (λ (x : End). take (count_of x) outputs) same_end ∙ sym e.answers.1.1.1.same in
      closed_so p end turns given (on_device (extend_each (closing inputs given end nonce)) (session_device after)) e.later e.answers.1.0 same_end same_turns same_outputs
      ∙ ap (λ (made : Fused DigestDevice × Option (Unit {0})). serve_answer launched (then_fused costs (act digests) (λ done. Return p) made))
      (rw (inputs_are, same_outputs, same_end) (ap (λ (d : Fused DigestDevice). on_device (extend_each (closing taken p.outputs p.end nonce)) d) e.device))
      ∙ ap (serve_answer launched) (sym (fused-bind costs (act digests) (extend_each (closing taken p.outputs p.end nonce)) (λ done. Return p) f))

  -- the writes that are left
  left_so : (p : PalEnd) (made : Fused DigestDevice × Option (Unit {0})) → writes ≡ p.outside.writes → LeavesWrites (then_fused costs (act digests) (λ done. Return p) made) writes
  left_so p (g, None) is = tt
  left_so p (g, Some done) is = is

  pub done_leaves : (nonce taken : List ℕ) (end : End) (turns : ℕ) (ended : Fused DigestDevice × Option PalEnd)
      → PalEnds ended before after writes outputs (Ok (record { end = end; turns = turns })) → LeavesWrites (then_fused costs (act digests) (closes taken nonce) ended) writes
  done_leaves nonce taken end turns (f, None) e = tt
  done_leaves nonce taken end turns (f, Some p) e =
      subst (λ (made : Fused DigestDevice × Option PalEnd). LeavesWrites made writes)
      (sym (fused-bind costs (act digests) (extend_each (closing taken p.outputs p.end nonce)) (λ done. Return p) f)) (left_so p _ e.answers.1.1.0)

-- ---- how long the outputs are

counted_of : (end : End) (given outputs : List ℕ) → AreOutputs end given outputs → length outputs ≡ 4096
    → (count_of end ≡ length given) × (length given ≤ 4096)
counted_of end given outputs are long =
    let few = are.few in
    let same = ap (λ (xs : List ℕ). length xs) are.same in
    let taken = length-take (count_of end) outputs in
    (omega arith, omega arith)

closed_counted : (p : PalEnd) (made : Fused DigestDevice × Option (Unit {0}))
    → (count_of p.end ≡ length p.outputs) × (length p.outputs ≤ 4096) → CountsOutputs (then_fused costs (act digests) (λ done. Return p) made)
closed_counted p (g, None) few = tt
closed_counted p (g, Some done) few = few

pub outputs_counted : (before after : LaunchedParts) (writes : List Armed) (outputs taken nonce : List ℕ) (answer : Result Ended PowerLost) (ended : Fused DigestDevice × Option PalEnd)
    → length outputs ≡ 4096 → PalEnds ended before after writes outputs answer → CountsOutputs (then_fused costs (act digests) (closes taken nonce) ended)
outputs_counted before after writes outputs taken nonce answer (f, None) long e = tt
outputs_counted before after writes outputs taken nonce answer (f, Some p) long e =
    subst CountsOutputs (sym (fused-bind costs (act digests) (extend_each (closing taken p.outputs p.end nonce)) (λ done. Return p) f))
    (closed_counted p _ (counted_of p.end p.outputs outputs e.answers.1.1.1 long))

-- ---- the beginning

-- inputs that were put into the region stand there
pub taken_back : (region inputs : List ℕ) (count : ℕ) → length inputs ≡ count → count ≤ 4096 → length (written region 57344 inputs) ≡ 65536 → part (written region 57344 inputs) 57344 count ≡ inputs
taken_back region inputs count long few whole =
    let size : length region ≡ 65536 = omega (arith, length-take 57344 region, length-append (take 57344 region) inputs, length-append (take 57344 region ++ inputs) (drop (57344 + length inputs) region), length-drop (57344 + length inputs) region) in
    part-written region 57344 count inputs long (omega arith)

-- what runs in a session that began so
pub same_run : (launched now : LaunchedParts) (count budget : ℕ) (job : Bool) (start : Cpu) (writes left : List Armed) (inputs : List ℕ)
    → now ≡ begun launched count (first_outside (setting_of launched) writes) → left ≡ (first_outside (setting_of launched) writes).writes
    → job ≡ (image_of (image_in launched.region)).job → budget ≡ (image_of (image_in launched.region)).budget → start ≡ first_registers launched.start count
    → inputs ≡ inputs_in (setting_of launched) count (first_outside (setting_of launched) writes)
    → on_device (runs job (start_in now start budget left) inputs) (session_device now)
    ≡ on_device (runs_image (image_of (image_in launched.region)) (setting_of launched) count (first_outside (setting_of launched) writes)) (session_device launched)
same_run launched now count budget job start writes left inputs n l j b s i = rw (n, l, j, b, s, i) refl

-- the whole plan, by what runs first
pub serving_is : (launched : LaunchedParts) (count : ℕ) (nonce : List ℕ) (writes : List Armed)
    → on_device (serving (setting_of launched) count nonce writes) (session_device launched)
    ≡ then_fused costs (act digests) (closes (inputs_in (setting_of launched) count (first_outside (setting_of launched) writes)) nonce)
    (on_device (runs_image (image_of (image_in launched.region)) (setting_of launched) count (first_outside (setting_of launched) writes)) (session_device launched))
serving_is launched count nonce writes =
    fused-bind costs (act digests) (runs_image (image_of (image_in launched.region)) (setting_of launched) count (first_outside (setting_of launched) writes))
    (closes (inputs_in (setting_of launched) count (first_outside (setting_of launched) writes)) nonce) (session_device launched)

-- ---- the session as a whole, from what its beginning, its run and its close ensure

module _ (launched now after : LaunchedParts) (count budget : ℕ) (job : Bool) (start : Cpu) (nonce : List ℕ) (writes left after_left : List Armed) (inputs outputs : List ℕ)
    (n : now ≡ begun launched count (first_outside (setting_of launched) writes)) (l : left ≡ (first_outside (setting_of launched) writes).writes)
    (j : job ≡ (image_of (image_in launched.region)).job) (b : budget ≡ (image_of (image_in launched.region)).budget) (s : start ≡ first_registers launched.start count)
    (i : inputs ≡ inputs_in (setting_of launched) count (first_outside (setting_of launched) writes)) where
  -- what was run, as the code says it
  abbrev pub ran : Fused DigestDevice × Option PalEnd
  ran = on_device (runs job (start_in now start budget left) inputs) (session_device now)

  -- and as the session does
  abbrev image_plan : Plan Command Reply PalEnd
  image_plan = runs_image (image_of (image_in launched.region)) (setting_of launched) count (first_outside (setting_of launched) writes)

  abbrev image_ran : Fused DigestDevice × Option PalEnd
  image_ran = on_device image_plan (session_device launched)

  abbrev taken : List ℕ
  taken = inputs_in (setting_of launched) count (first_outside (setting_of launched) writes)

  so_ended : (answer : Result Ended PowerLost) → PalEnds ran now after after_left outputs answer → PalEnds image_ran now after after_left outputs answer
  so_ended answer e = subst (λ (x : Fused DigestDevice × Option PalEnd). PalEnds x now after after_left outputs answer) (same_run launched now count budget job start writes left inputs n l j b s i) e

  abbrev whole : Fused DigestDevice × Option PalEnd
  whole = on_device (serving (setting_of launched) count nonce writes) (session_device launched)

  since : IsLater launched now
  since = rw n (record { saved = refl; area = refl; around = refl })

  pub no_step_left : PalEnds ran now after after_left outputs (Err power_lost) → after.fuse ≡ Some 0
  no_step_left e =
      let ends = so_ended (Err power_lost) e in
      ap (λ (d : Fused DigestDevice). d.fuse) ends.device
      ∙ cut_at_zero image_plan (session_device launched) (pal_cut image_ran now after after_left outputs ends)

  pub whole_lost : PalEnds ran now after after_left outputs (Err power_lost) → ◌≡◌ {A = Result ClosedParts DarkParts} (Err (lost after after.device)) (serve_answer launched whole)
  whole_lost e =
      serve_lost launched now after since after_left outputs (closes taken nonce) image_ran (so_ended (Err power_lost) e)
      ∙ ap (serve_answer launched) (sym (serving_is launched count nonce writes))

  pub whole_lost_leaves : PalEnds ran now after after_left outputs (Err power_lost) → LeavesWrites whole after_left
  whole_lost_leaves e =
      subst (λ (x : Fused DigestDevice × Option PalEnd). LeavesWrites x after_left) (sym (serving_is launched count nonce writes))
      (lost_leaves launched now after since after_left outputs (closes taken nonce) image_ran after_left (so_ended (Err power_lost) e))

  pub whole_done : (given : List ℕ) (ended : Ended) → PalEnds ran now after after_left outputs (Ok ended) → given ≡ take (count_of ended.end) outputs
      → close_answer after ended.end ended.turns given (on_device (extend_each (closing inputs given ended.end nonce)) (session_device after)) ≡ serve_answer launched whole
  whole_done given ended e given_are =
      serve_done launched now after since after_left outputs nonce inputs taken given ended.end ended.turns image_ran (so_ended (Ok ended) e) i given_are
      ∙ ap (serve_answer launched) (sym (serving_is launched count nonce writes))

  pub whole_done_leaves : (ended : Ended) → PalEnds ran now after after_left outputs (Ok ended) → LeavesWrites whole after_left
  whole_done_leaves ended e =
      subst (λ (x : Fused DigestDevice × Option PalEnd). LeavesWrites x after_left) (sym (serving_is launched count nonce writes))
      (done_leaves launched now after since after_left outputs nonce taken ended.end ended.turns image_ran (so_ended (Ok ended) e))

  pub whole_counted : (answer : Result Ended PowerLost) → length outputs ≡ 4096 → PalEnds ran now after after_left outputs answer → CountsOutputs whole
  whole_counted answer long e =
      subst CountsOutputs (sym (serving_is launched count nonce writes)) (outputs_counted now after after_left outputs taken nonce answer image_ran long (so_ended answer e))
