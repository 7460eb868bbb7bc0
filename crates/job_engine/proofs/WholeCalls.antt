-- Whole calls, from what their parts ensure, and the list of jobs.
use Rattle.std.proofs.Common.{◌≡◌, ◌≤◌, ◌-◌, ℕ, List, [], length, take, replicate, refl, sym, ap, subst, ◌∙◌, arith, inl, inr, length-append, length-take, false, None, Result, Ok, Err}
use Rattle.std.specs.Prelude.{nat_lt}
use Rattle.std.proofs.lemmas.List.{length-replicate}
use Rattle.std.proofs.lemmas.Bool.{le-ltb}
use Rattle.flk_base.specs.Plan.{Return, ◌>>=◌}
use Rattle.flk_base.specs.Stop.{Fused}
use Rattle.seal_device.specs.Digests.{DigestDevice}
use Rattle.late_launch.specs.Boards.{BoardParts, DarkParts, fused_device}
use Rattle.late_launch.specs.Regions.{page}
use Rattle.session_driver.specs.Answers.{no_outputs}
use Rattle.job_store.specs.Commands.{SlotCommand, SlotReply}
use Rattle.job_engine.specs.declared.ends.JobEnd.{JobEnd}
use Rattle.job_engine.specs.declared.ends.JobEnd.TheVariants as job_ends
use Rattle.job_engine.specs.declared.parts.Exit.{Exit}
use Rattle.job_engine.specs.declared.parts.Exit.TheVariants as exits
use Rattle.job_engine.specs.declared.parts.SlotFound.{SlotFound}
use Rattle.job_engine.specs.Calls.{Does, MakeRoom, Standing, CallEnd, asks, births, born, finds, steps, births_told, output_end, slot_end, new_course, step_course, recover_course}
use Rattle.job_engine.specs.Jobs.{Job, IsPlaceOf, new_refusal}
use Rattle.job_engine.specs.Runs.{Ended, With, OutOfMemory, WithoutPower, MayEnd}
use Rattle.job_engine.specs.Answers.{is_roomy, with_device, dark_with, exit_answer, Ran, Carried, CallEnds, GivesOut, counted_in, standing_in, output_answer, slot_answer}
use Rattle.job_engine.proofs.Runs.{may_then, may_want, may_lose, ran_then, ran_exit}

-- a page is as long as one
page_long : (xs : List ℕ) → length xs ≤ 4096 → length (page xs) ≡ 4096
page_long xs few = omega (arith, length-append xs (replicate (4096 - length xs) 0), length-replicate {A = ℕ} (4096 - length xs) 0)

module _ {D : Type 0} (May : (c : SlotCommand) → D → D → SlotReply c → Type 0) (image : List ℕ) where
  -- what is told at the end of a call
  told_by : {X Y : Type 0} (does : Does X) (told : Result X JobEnd → Y) (board : BoardParts) (old new : D) (device : Fused DigestDevice) (r : Result X JobEnd)
      → MayEnd May (is_roomy board.memory.marks) image does (fused_device board, old) (device, new) (With r)
      → MayEnd May (is_roomy board.memory.marks) image (does >>= λ r. Return (told r)) (fused_device board, old) (device, new) (With (told r))
  told_by does told board old new device r ends =
      may_then May (is_roomy board.memory.marks) image does (λ r. Return (told r)) (fused_device board, old) (device, new) (device, new) r (With (told r)) ends (refl, refl)

  module _ (does : Does (List ℕ)) (board : BoardParts) (old new : D) (out : List ℕ) where
    -- the output was given out
    output_done : (here : BoardParts) (count : ℕ) (device : Fused DigestDevice) (end : Ended (Result (List ℕ) JobEnd))
        → MayEnd May (is_roomy board.memory.marks) image does (fused_device board, old) (device, new) end
        → ◌≡◌ {A = Result (BoardParts × List ℕ) Exit} (Ok (here, take count out)) (exit_answer board device end)
        → count ≤ 4096 → out ≡ page (take count out)
        → Carried May image (does >>= λ told. Return (output_end told)) board old new (Ok (here, job_ends.Done count)) out
    output_done here count device (With (Ok xs)) ends is few gives =
        let both : ◌≡◌ {A = BoardParts × List ℕ} (here, take count out) (with_device board device, xs) = (let oks : ◌≡◌ {A = Result (BoardParts × List ℕ) Exit} (Ok (here, take count out)) (Ok (with_device board device, xs)) = is in cc) in
        let here_is : here ≡ with_device board device = ap (λ (b : BoardParts × List ℕ). b.0) both in
        let xs_are : take count out ≡ xs = ap (λ (b : BoardParts × List ℕ). b.1) both in
        let taken = length-take count out in
        let whole : length out ≡ 4096 = ap (λ (ys : List ℕ). length ys) gives ∙ page_long (take count out) (omega (arith, taken, few)) in
        let long : count ≡ length xs = sym (let l : length (take count out) ≡ count = omega (arith, taken, whole, few) in l) ∙ ap (λ (ys : List ℕ). length ys) xs_are in
        record {
          device = device;
          end = With (output_end (Ok xs));
          ends = told_by does output_end board old new device (Ok xs) ends;
          answers = rw (here_is, long) refl;
          outputs = gives ∙ ap page xs_are;
        }
    output_done here count device (With (Err why)) ends is few gives = absurd (let clash : ◌≡◌ {A = Result (BoardParts × List ℕ) Exit} (Ok (here, take count out)) (Err (exits.Ended (with_device board device) why)) = is in cc)
    output_done here count device OutOfMemory ends is few gives = absurd (let clash : ◌≡◌ {A = Result (BoardParts × List ℕ) Exit} (Ok (here, take count out)) (Err (exits.Ended (with_device board device) job_ends.NoMemory)) = is in cc)
    output_done here count device WithoutPower ends is few gives = absurd (let clash : ◌≡◌ {A = Result (BoardParts × List ℕ) Exit} (Ok (here, take count out)) (Err (exits.Dark (dark_with board device))) = is in cc)

  -- how a call answers that ended before its value
  abbrev exit_told : Exit → Result (BoardParts × JobEnd) DarkParts
  exit_told (exits.Ended board end) = Ok (board, end)
  exit_told (exits.Dark dark) = Err dark

  -- a call that ended so, where its value would be told in some way and else as its end, with no output
  exit_done : {X : Type 0} (does : Does X) (told : Result X JobEnd → CallEnd) (board : BoardParts) (old new : D) (exit : Exit) (device : Fused DigestDevice) (end : Ended (Result X JobEnd))
      → ((why : JobEnd) → told (Err why) ≡ record { end = why; output = [] })
      → MayEnd May (is_roomy board.memory.marks) image does (fused_device board, old) (device, new) end
      → ◌≡◌ {A = Result (BoardParts × X) Exit} (Err exit) (exit_answer board device end)
      → Carried May image (does >>= λ r. Return (told r)) board old new (exit_told exit) no_outputs
  exit_done {X} does told board old new exit device (With (Ok x)) so ends is = absurd (let clash : ◌≡◌ {A = Result (BoardParts × X) Exit} (Err exit) (Ok (with_device board device, x)) = is in cc)
  exit_done {X} does told board old new exit device (With (Err why)) so ends is =
      let same : exit ≡ exits.Ended (with_device board device) why = (let errs : ◌≡◌ {A = Result (BoardParts × X) Exit} (Err exit) (Err (exits.Ended (with_device board device) why)) = is in cc) in
      record {
        device = device;
        end = With (told (Err why));
        ends = told_by does told board old new device (Err why) ends;
        answers = rw (same, so why) refl;
        outputs = rw (so why) refl;
      }
  exit_done {X} does told board old new exit device OutOfMemory so ends is =
      let same : exit ≡ exits.Ended (with_device board device) job_ends.NoMemory = (let errs : ◌≡◌ {A = Result (BoardParts × X) Exit} (Err exit) (Err (exits.Ended (with_device board device) job_ends.NoMemory)) = is in cc) in
      record {
        device = device;
        end = OutOfMemory;
        ends = may_want May (is_roomy board.memory.marks) image does (λ r. Return (told r)) (fused_device board, old) (device, new) ends;
        answers = rw same refl;
        outputs = refl;
      }
  exit_done {X} does told board old new exit device WithoutPower so ends is =
      let same : exit ≡ exits.Dark (dark_with board device) = (let errs : ◌≡◌ {A = Result (BoardParts × X) Exit} (Err exit) (Err (exits.Dark (dark_with board device))) = is in cc) in
      record {
        device = device;
        end = WithoutPower;
        ends = may_lose May (is_roomy board.memory.marks) image does (λ r. Return (told r)) (fused_device board, old) (device, new) ends;
        answers = rw same refl;
        outputs = refl;
      }

  -- a call that gives out an output
  pub carried_output : (does : Does (List ℕ)) (board : BoardParts) (old new : D) (out : List ℕ) (answer : Result (BoardParts × ℕ) Exit)
      → Ran May image does board old new (counted_in out answer) → GivesOut answer out
      → Carried May image (does >>= λ told. Return (output_end told)) board old new (output_answer answer) out
  carried_output does board old new out (Ok (here, count)) ran gives = output_done does board old new out here count ran.device ran.end ran.ends ran.answers gives.0 gives.1
  carried_output does board old new out (Err (exits.Ended here end)) ran gives =
      subst (λ (o : List ℕ). Carried May image (does >>= λ told. Return (output_end told)) board old new (Ok (here, end)) o) (sym gives)
      (exit_done does output_end board old new (exits.Ended here end) ran.device ran.end (λ why. refl) ran.ends ran.answers)
  carried_output does board old new out (Err (exits.Dark dark)) ran gives =
      subst (λ (o : List ℕ). Carried May image (does >>= λ told. Return (output_end told)) board old new (Err dark) o) (sym gives)
      (exit_done does output_end board old new (exits.Dark dark) ran.device ran.end (λ why. refl) ran.ends ran.answers)

  slot_done : (does : Does Standing) (board here : BoardParts) (old new : D) (slot : ℕ) (blob : List ℕ) (device : Fused DigestDevice) (end : Ended (Result Standing JobEnd))
      → MayEnd May (is_roomy board.memory.marks) image does (fused_device board, old) (device, new) end
      → ◌≡◌ {A = Result (BoardParts × Standing) Exit} (Ok (here, record { slot = slot; blob = blob })) (exit_answer board device end)
      → Carried May image (does >>= λ told. Return (slot_end told)) board old new (Ok (here, job_ends.Found slot)) no_outputs
  slot_done does board here old new slot blob device (With (Ok standing)) ends is =
      let both : ◌≡◌ {A = BoardParts × Standing} (here, record { slot = slot; blob = blob }) (with_device board device, standing) =
      (let oks : ◌≡◌ {A = Result (BoardParts × Standing) Exit} (Ok (here, record { slot = slot; blob = blob })) (Ok (with_device board device, standing)) = is in cc) in
      let here_is : here ≡ with_device board device = ap (λ (b : BoardParts × Standing). b.0) both in
      let slot_is : slot ≡ standing.slot = ap (λ (b : BoardParts × Standing). b.1.slot) both in
      record {
        device = device;
        end = With (slot_end (Ok standing));
        ends = told_by does slot_end board old new device (Ok standing) ends;
        answers = rw (here_is, slot_is) refl;
        outputs = refl;
      }
  slot_done does board here old new slot blob device (With (Err why)) ends is = absurd (let clash : ◌≡◌ {A = Result (BoardParts × Standing) Exit} (Ok (here, record { slot = slot; blob = blob })) (Err (exits.Ended (with_device board device) why)) = is in cc)
  slot_done does board here old new slot blob device OutOfMemory ends is = absurd (let clash : ◌≡◌ {A = Result (BoardParts × Standing) Exit} (Ok (here, record { slot = slot; blob = blob })) (Err (exits.Ended (with_device board device) job_ends.NoMemory)) = is in cc)
  slot_done does board here old new slot blob device WithoutPower ends is = absurd (let clash : ◌≡◌ {A = Result (BoardParts × Standing) Exit} (Ok (here, record { slot = slot; blob = blob })) (Err (exits.Dark (dark_with board device))) = is in cc)

  -- a call that finds a slot
  pub carried_slot : (does : Does Standing) (board : BoardParts) (old new : D) (buffer : List ℕ) (answer : Result (BoardParts × SlotFound) Exit)
      → Ran May image does board old new (standing_in buffer answer)
      → Carried May image (does >>= λ told. Return (slot_end told)) board old new (slot_answer answer) no_outputs
  carried_slot does board old new buffer (Ok (here, found)) ran = slot_done does board here old new found.slot (take found.len buffer) ran.device ran.end ran.ends ran.answers
  carried_slot does board old new buffer (Err (exits.Ended here end)) ran = exit_done does slot_end board old new (exits.Ended here end) ran.device ran.end (λ why. refl) ran.ends ran.answers
  carried_slot does board old new buffer (Err (exits.Dark dark)) ran = exit_done does slot_end board old new (exits.Dark dark) ran.device ran.end (λ why. refl) ran.ends ran.answers

  -- there was room in the list, or none
  room_made : (board : BoardParts) (disk : D) → Ran May image (asks MakeRoom (λ (room : Unit {0}). Ok room)) board disk disk (Ok (board, tt))
  room_made board disk = record { device = fused_device board; end = With (Ok tt); ends = (With tt, (fused_device board, disk), (refl, inl refl), (refl, refl)); answers = refl }

  room_wanted : (board : BoardParts) (disk : D) → Ran May image (asks MakeRoom (λ (room : Unit {0}). Ok room)) board disk disk (Err (exits.Ended board job_ends.NoMemory))
  room_wanted board disk = record { device = fused_device board; end = OutOfMemory; ends = (OutOfMemory, (fused_device board, disk), (refl, inr refl), (refl, refl)); answers = refl }

  pub births_then : (j : ℕ) (inputs : List ℕ) (board : BoardParts) (old new : D) (answer : Result (BoardParts × List ℕ) Exit)
      → Ran May image (born j inputs) board old new answer → Ran May image (births j inputs) board old new answer
  births_then j inputs board old new answer ran =
      ran_then May image (asks MakeRoom (λ room. Ok room)) (λ room. born j inputs) board board old old new tt answer (room_made board old) ran

  pub births_want : (j : ℕ) (inputs : List ℕ) (board : BoardParts) (disk : D) → Ran May image (births j inputs) board disk disk (Err (exits.Ended board job_ends.NoMemory))
  births_want j inputs board disk = ran_exit May image (asks MakeRoom (λ room. Ok room)) (λ room. born j inputs) board disk disk (exits.Ended board job_ends.NoMemory) (room_wanted board disk)

-- ---- what a call comes to

module _ {D : Type 0} (May : (c : SlotCommand) → D → D → SlotReply c → Type 0) (jobs : List Job) (name : List ℕ) (board : BoardParts) (old new : D) (answer : Result (BoardParts × JobEnd) DarkParts) (out : List ℕ) where
  pub step_call : (inputs : List ℕ) (j : ℕ) (image : List ℕ) → IsPlaceOf jobs name j image → length inputs ≤ 1024
      → Carried May image (steps j inputs >>= λ told. Return (output_end told)) board old new answer out
      → CallEnds May (step_course jobs name inputs) board old new answer out
  step_call inputs j image place short carried =
      let few : nat_lt 1024 (length inputs) ≡ false = le-ltb 1024 (length inputs) short in
      rw (place.at, few, place.there, ← place.image_is) carried

  pub recover_call : (j : ℕ) (image : List ℕ) → IsPlaceOf jobs name j image
      → Carried May image (finds j >>= λ told. Return (slot_end told)) board old new answer out
      → CallEnds May (recover_course jobs name) board old new answer out
  recover_call j image place carried = rw (place.at, place.there, ← place.image_is) carried

  pub new_call : (image inputs : List ℕ) → new_refusal jobs name image inputs ≡ None
      → Carried May image (births_told (length jobs) inputs) board old new answer out
      → CallEnds May (new_course jobs name image inputs) board old new answer out
  new_call image inputs none carried = rw none carried
