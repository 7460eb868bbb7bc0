-- Sessions of a job's image, by what a session ensures.
use Rattle.std.proofs.Common.{◌≡◌, ◌≤◌, ◌<◌, ◌+◌, ℕ, List, [], ◌++◌, length, take, replicate, ◌-◌, refl, sym, ap, subst, ◌∙◌, arith, inl, inr, length-append, Bool, true, false, Option, Some, None, Result, Ok, Err}
use Rattle.std.specs.Prelude.{nat_lt, MatchOption, IfSome}
use Rattle.std.proofs.lemmas.Bool.{cases_Bool, le-ltb, lt-ltb}
use Rattle.std.proofs.Math.Seq.{take-append_seam, take-length}
use Rattle.byteorder.specs.Endian.{big_bytes}
use Rattle.flk_base.specs.Plan.{Return}
use Rattle.flk_base.specs.Stop.{Fused}
use Rattle.slb_image.specs.Faults.{image_fault}
use Rattle.region_pool.specs.Places.{IsLowestPlace, HasNoPlace as NoneFits, place}
use Rattle.region_pool.proofs.PlaceLemmas.{place-cases}
use Rattle.machine_memory.specs.Contents.{IsMemory}
use Rattle.machine_memory.specs.ArmedWrites.{Armed}
use Rattle.seal_device.specs.Digests.{DigestDevice, digests, on_device}
use Rattle.seal_device.specs.Commands.{act, costs}
use Rattle.late_launch.specs.declared.ends.End.{End}
use Rattle.late_launch.specs.declared.ends.End.TheVariants.{Done, Fault, Budget, Refused}
use Rattle.late_launch.specs.declared.ends.JobRefusal.{JobRefusal}
use Rattle.late_launch.specs.declared.ends.JobRefusal.TheVariants as refusals
use Rattle.late_launch.specs.Ends.{closing, extend_each, end_byte}
use Rattle.late_launch.specs.States.{image_in}
use Rattle.late_launch.specs.Boards.{BoardParts, DarkParts, fused_device}
use Rattle.slb_image.specs.Image.{Image}
use Rattle.slb_image.specs.Fields.{image_of}
use Rattle.slb_core.specs.Pal.{Outside, CodeStart, PalEnd}
use Rattle.slb_core.specs.declared.job_inputs.Mode.{Mode}
use Rattle.slb_core.specs.declared.job_inputs.Mode.TheVariants.{New, Step, Commit, Probe}
use Rattle.slb_core.specs.JobInputs.{Asked, CanBeAsked, job_inputs}
use Rattle.slb_core.specs.Jobs.{does_asked, runs_code, HasBlob, KeepsBlob}
use Rattle.slb_core.specs.Reports.{count_of}
use Rattle.slb_core.specs.Sessions.{Setting, first_outside, inputs_in, code_start, runs, runs_image, closes}
use Rattle.slb_core.proofs.WriteLemmas.{ReturnsOnly, Any, only_any, only_bind, only_fused}
use Rattle.slb_core.proofs.JobLemmas.{KeepsOutputs, inputs_read, mode_keeps}
use Rattle.session_driver.specs.declared.driver.SessionEnd.{SessionEnd}
use Rattle.session_driver.specs.declared.driver.SessionEnd.TheVariants as sessions
use Rattle.session_driver.specs.Answers.{placed, course, answer_of, LeavesBeside, OutOfMemory, is_out_of_memory, Course, IsRefused, RunsAt}
use Rattle.session_driver.specs.Quiet.{quiet_setting, quiet_plan, quiet_answer, HasOutputs, QuietOutputs}
use Rattle.session_driver.proofs.Filling.{holds_image}
use Rattle.session_driver.proofs.Quiet.{answers_quietly, leaves_quietly}
use Rattle.job_engine.specs.Calls.{Unbegun, HasLongInputs, HasNoPlace, told_in}
use Rattle.job_engine.specs.Jobs.{IsJobImage}
use Rattle.job_engine.specs.declared.ends.JobEnd.{JobEnd}
use Rattle.job_engine.specs.declared.ends.JobEnd.TheVariants as job_ends
use Rattle.job_engine.specs.Runs.{Ended, With, WithoutPower, job_nonce, unbegun, SessionEnds, Runs, HasNoMemory}
use Rattle.job_engine.specs.Runs as call_ends
use Rattle.job_engine.specs.Answers.{is_roomy, with_device, session_answer, told_end, LeavesOutputs, outputs_seen_by, outputs_seen, SessionAnswers, SessionDid}

-- inputs that are too long for a session
pub inputs_long : (asked : Asked) → length (job_inputs asked) ≡ 3 + (length asked.blob + length asked.own)
inputs_long asked =
    omega (arith, length-append (big_bytes 2 (length asked.blob)) (asked.blob ++ asked.own), length-append asked.blob asked.own)

pub too_long : (image : List ℕ) (asked : Asked) (board : BoardParts) (out : List ℕ) → 4096 < 3 + (length asked.blob + length asked.own)
    → SessionAnswers image (job_inputs asked) board (Ok (board, sessions.LongInput)) out
too_long image asked board out long =
    let many : nat_lt 4096 (length (job_inputs asked)) ≡ true = lt-ltb 4096 (length (job_inputs asked)) (omega (arith, inputs_long asked)) in
    record {
      device = fused_device board;
      end = With (Err HasLongInputs);
      ran = record { ended = rw many (refl, refl) };
      answers = refl;
      outputs = tt;
    }

module _ (board : BoardParts) (image inputs : List ℕ) (left : List Armed) (out : List ℕ) (m : IsMemory board.memory) (is_image : image_fault image ≡ None) (short : length inputs ≤ 4096) where
  abbrev ran : Fused DigestDevice × Option PalEnd
  ran = on_device (quiet_plan image inputs job_nonce) (fused_device board)

  few : nat_lt 4096 (length inputs) ≡ false
  few = le-ltb 4096 (length inputs) short

  -- it ran
  ran_so : (first : ℕ) → place board.memory.marks 18 16 ≡ Some first → (e : Fused DigestDevice × Option PalEnd) → ran ≡ e → QuietOutputs e out → SessionAnswers image inputs board (quiet_answer board e) out
  ran_so first is (d, None) same outputs = record {
    device = d;
    end = WithoutPower;
    ran = record { ended = rw (few, is, same) (Runs refl refl) };
    answers = refl;
    outputs = tt;
  }
  ran_so first is (d, Some ended) same outputs = record {
    device = d;
    end = With (Ok ended);
    ran = record { ended = rw (few, is, same) (Runs refl refl) };
    answers = refl;
    outputs = outputs;
  }

  -- there was no place for it
  no_place : place board.memory.marks 18 16 ≡ None → SessionAnswers image inputs board (Ok (board, sessions.NoPlace)) out
  no_place is = record {
    device = fused_device board;
    end = With (Err HasNoPlace);
    ran = record { ended = rw (few, is) (refl, refl) };
    answers = refl;
    outputs = tt;
  }

  -- there was no memory for it
  no_memory : (first : ℕ) → place board.memory.marks 18 16 ≡ Some first → SessionAnswers image inputs board (Ok (board, sessions.NoMemory)) out
  no_memory first is = record {
    device = fused_device board;
    end = call_ends.OutOfMemory;
    ran = record { ended = rw (few, is) (HasNoMemory refl refl) };
    answers = refl;
    outputs = tt;
  }

  course_is : course board.memory.marks image inputs ≡ placed (place board.memory.marks 18 16)
  course_is = rw (is_image, few) refl

  by_place : (found : Option ℕ) → place board.memory.marks 18 16 ≡ found → MatchOption found (NoneFits board.memory.marks 18 16) (IsLowestPlace board.memory.marks 18 16)
      → (result : Result (BoardParts × SessionEnd) DarkParts) → is_out_of_memory result ≡ false
      → result ≡ answer_of board image inputs job_nonce [] (placed found) → LeavesBeside board image inputs job_nonce [] (placed found) left out
      → SessionAnswers image inputs board result out
  by_place None is none result not answer beside =
      subst (λ (r : Result (BoardParts × SessionEnd) DarkParts). SessionAnswers image inputs board r out) (sym answer) (no_place is)
  by_place (Some first) is lowest result not answer beside =
      subst (λ (r : Result (BoardParts × SessionEnd) DarkParts). SessionAnswers image inputs board r out)
      (sym (answer ∙ answers_quietly board first image inputs job_nonce m lowest.place short))
      (ran_so first is ran refl (leaves_quietly board first image inputs job_nonce left out m lowest.place short beside))

  runs_placed : (found : Option ℕ) (first : ℕ) → place board.memory.marks 18 16 ≡ found → ◌≡◌ {A = Course} (placed found) (RunsAt first) → place board.memory.marks 18 16 ≡ Some first
  runs_placed None first is same = absurd (let clash : ◌≡◌ {A = Course} (IsRefused _) (RunsAt first) = same in cc)
  runs_placed (Some other) first is same =
      let firsts : other ≡ first = cc in
      is ∙ ap (λ (n : ℕ). let found : Option ℕ = Some n in found) firsts

  -- how a session ended, by all that it ensures
  session_none : (result : Result (BoardParts × SessionEnd) DarkParts)
      → (is_out_of_memory result ≡ false → result ≡ answer_of board image inputs job_nonce [] (course board.memory.marks image inputs))
      → (is_out_of_memory result ≡ false → LeavesBeside board image inputs job_nonce [] (course board.memory.marks image inputs) left out)
      → (is_out_of_memory result ≡ true → OutOfMemory board [] (course board.memory.marks image inputs) result left out)
      → SessionAnswers image inputs board result out
  session_none result answer beside memory =
      elim (cases_Bool (is_out_of_memory result)) [
        | inl wants ↦ (let o = memory wants in
            subst (λ (r : Result (BoardParts × SessionEnd) DarkParts). SessionAnswers image inputs board r out) (sym o.answer)
            (no_memory o.first (runs_placed (place board.memory.marks 18 16) o.first refl (sym course_is ∙ o.runs))))
        | inr not ↦ by_place (place board.memory.marks 18 16) refl (place-cases board.memory.marks 18 16 (omega arith)) result not
            (answer not ∙ ap (answer_of board image inputs job_nonce []) course_is)
            (subst (λ (c : Course). LeavesBeside board image inputs job_nonce [] c left out) course_is (beside not))
      ]

-- the same, of writes of which there are none
pub session_so : (board : BoardParts) (image inputs nonce : List ℕ) (writes left : List Armed) (out : List ℕ) → IsMemory board.memory → image_fault image ≡ None → length inputs ≤ 4096
    → nonce ≡ job_nonce → writes ≡ []
    → (result : Result (BoardParts × SessionEnd) DarkParts)
    → (is_out_of_memory result ≡ false → result ≡ answer_of board image inputs nonce writes (course board.memory.marks image inputs))
    → (is_out_of_memory result ≡ false → LeavesBeside board image inputs nonce writes (course board.memory.marks image inputs) left out)
    → (is_out_of_memory result ≡ true → OutOfMemory board writes (course board.memory.marks image inputs) result left out)
    → SessionAnswers image inputs board result out
session_so board image inputs nonce writes left out m is_image short zeros none result answer beside memory =
    session_none board image inputs left out m is_image short result (rw (zeros, none) at answer) (rw (zeros, none) at beside) (rw none at memory)

-- ---- the outputs of a session that ran a job's code

quiet_inputs : (image inputs : List ℕ) → inputs_in (quiet_setting image inputs) (length inputs) (first_outside (quiet_setting image inputs) []) ≡ inputs
quiet_inputs image inputs = take-length inputs

module _ (image nonce : List ℕ) (asked : Asked) (job : IsJobImage image) (can : CanBeAsked asked) (runs_it : runs_code asked.mode ≡ true) where
  abbrev inputs : List ℕ
  inputs = job_inputs asked

  abbrev setting : Setting
  setting = quiet_setting image inputs

  abbrev first : Outside
  first = first_outside setting []

  -- what runs is what was asked for
  runs_asked : (start : CodeStart) → ReturnsOnly KeepsOutputs (runs true start inputs)
  runs_asked start =
      subst (λ (a : Option Asked). ReturnsOnly KeepsOutputs (does_asked start a)) (sym (inputs_read asked can)) (mode_keeps asked.mode start asked runs_it)

  runs_keep : (said : Image) → said.job ≡ true → ReturnsOnly KeepsOutputs (runs_image said setting (length inputs) first)
  runs_keep said is_job =
      subst (λ (job : Bool). ReturnsOnly KeepsOutputs (runs job (code_start said setting (length inputs) first) (inputs_in setting (length inputs) first))) (sym is_job)
      (subst (λ (xs : List ℕ). ReturnsOnly KeepsOutputs (runs true (code_start said setting (length inputs) first) xs)) (sym (quiet_inputs image inputs))
      (runs_asked (code_start said setting (length inputs) first)))

  runs_job : ReturnsOnly KeepsOutputs (runs_image (image_of (image_in setting.region)) setting (length inputs) first)
  runs_job =
      let there : image_in setting.region ≡ image = (holds_image image (replicate (65536 - length image) 0) job.is_image).same in
      runs_keep (image_of (image_in setting.region)) (ap (λ (xs : List ℕ). (image_of xs).job) there ∙ job.is_job)

  closes_keeps : (taken : List ℕ) (ended : PalEnd) → KeepsOutputs ended → ReturnsOnly KeepsOutputs (closes taken nonce ended)
  closes_keeps taken ended keeps =
      only_bind Any KeepsOutputs (extend_each (closing taken ended.outputs ended.end nonce)) (λ done. Return ended)
      (only_any (extend_each (closing taken ended.outputs ended.end nonce))) (λ done any. keeps)

  quiet_keeps : ReturnsOnly KeepsOutputs (quiet_plan image inputs nonce)
  quiet_keeps = λ reply.
      only_bind KeepsOutputs KeepsOutputs (runs_image (image_of (image_in setting.region)) setting (length inputs) first) (closes (inputs_in setting (length inputs) first) nonce)
      runs_job (λ ended keeps. closes_keeps (inputs_in setting (length inputs) first) ended keeps)

  pub kept_by : (before : Fused DigestDevice) → IfSome (on_device (quiet_plan image inputs nonce) before).1 KeepsOutputs
  kept_by before = only_fused costs (act digests) KeepsOutputs (quiet_plan image inputs nonce) before quiet_keeps

-- ---- what is told of a session

-- a session of which so many bytes of outputs are told was done
seen_done : (mode : Mode) (end : End) (count : ℕ) → ◌≡◌ {A = Result ℕ JobEnd} (outputs_seen_by mode end) (Ok count) → end ≡ Done count
seen_done mode (Done n) count is = ap Done (let same : n ≡ count = cc in same)
seen_done mode (Fault kind) count is = absurd (let clash : ◌≡◌ {A = Result ℕ JobEnd} (Err (job_ends.Ended (end_byte (Fault kind)))) (Ok count) = by_mode mode is in cc) where
  by_mode : (mode : Mode) → ◌≡◌ {A = Result ℕ JobEnd} (outputs_seen_by mode (Fault kind)) (Ok count) → ◌≡◌ {A = Result ℕ JobEnd} (Err (job_ends.Ended (end_byte (Fault kind)))) (Ok count)
  by_mode New is = is
  by_mode Step is = is
  by_mode Commit is = is
  by_mode Probe is = is
seen_done mode Budget count is = absurd (let clash : ◌≡◌ {A = Result ℕ JobEnd} (Err (job_ends.Ended (end_byte Budget))) (Ok count) = by_mode mode is in cc) where
  by_mode : (mode : Mode) → ◌≡◌ {A = Result ℕ JobEnd} (outputs_seen_by mode Budget) (Ok count) → ◌≡◌ {A = Result ℕ JobEnd} (Err (job_ends.Ended (end_byte Budget))) (Ok count)
  by_mode New is = is
  by_mode Step is = is
  by_mode Commit is = is
  by_mode Probe is = is
seen_done mode (Refused why) count is = absurd (by_mode mode why is) where
  by_other : (end : JobEnd) → ◌≡◌ {A = Result ℕ JobEnd} (Err end) (Ok count) → ⊥
  by_other end is = cc

  by_mode : (mode : Mode) (why : JobRefusal) → ◌≡◌ {A = Result ℕ JobEnd} (outputs_seen_by mode (Refused why)) (Ok count) → ⊥
  by_mode New refusals.NoCounterLeft is = by_other _ is
  by_mode New refusals.Input is = by_other _ is
  by_mode New refusals.NotOpen is = by_other _ is
  by_mode New refusals.CounterEnd is = by_other _ is
  by_mode New refusals.Unprovisioned is = by_other _ is
  by_mode New refusals.SerialEnd is = by_other _ is
  by_mode Step why is = by_other _ is
  by_mode Commit why is = by_other _ is
  by_mode Probe why is = by_other _ is

-- what is told of one that was done
done_told : (mode : Mode) (end : End) (outputs : List ℕ) (count : ℕ) (ended : PalEnd) → ended.end ≡ Done count
    → ◌≡◌ {A = Result (List ℕ) JobEnd} (told_in mode (Ok ended)) (Ok ended.outputs)
done_told New end outputs count ended done = rw done refl
done_told Step end outputs count ended done = rw done refl
done_told Commit end outputs count ended done = rw done refl
done_told Probe end outputs count ended done = rw done refl

-- its outputs are the first bytes of the page
page_front : (ended : PalEnd) (count : ℕ) (given : List ℕ) → ended.end ≡ Done count → HasOutputs ended given → take count given ≡ ended.outputs
page_front ended count given done has =
    let long : count ≡ length ended.outputs = sym (ap count_of done) ∙ has.count in
    ap (λ (n : ℕ). take n given) long ∙ ap (λ (xs : List ℕ). take (length ended.outputs) xs) has.page_is ∙ take-append_seam ended.outputs _

module _ (mode : Mode) (image inputs : List ℕ) (board here : BoardParts) (end : SessionEnd) (count : ℕ) (given : List ℕ) (a : SessionAnswers image inputs board (Ok (here, end)) given)
    (seen : ◌≡◌ {A = Result ℕ JobEnd} (outputs_seen mode end) (Ok count)) where
  -- the session ended so
  record WasDone : Type 0 where
    ended : PalEnd
    with_it : a.end ≡ With (Ok ended)
    done : ended.end ≡ Done count
    front : take count given ≡ ended.outputs
    here_is : here ≡ with_device board a.device

  by_seen : (other : SessionEnd) → end ≡ other → ◌≡◌ {A = Result ℕ JobEnd} (outputs_seen mode other) (Ok count)
  by_seen other same = rw (← same) seen

  oks : (other : SessionEnd) (b : BoardParts) → ◌≡◌ {A = Result (BoardParts × SessionEnd) DarkParts} (Ok (here, end)) (Ok (b, other)) → (here ≡ b) × (end ≡ other)
  oks other b is =
      let both : ◌≡◌ {A = BoardParts × SessionEnd} (here, end) (b, other) = cc in
      (ap (λ (x : BoardParts × SessionEnd). x.0) both, ap (λ (x : BoardParts × SessionEnd). x.1) both)

  was_done : (e : Ended (Result PalEnd Unbegun)) → a.end ≡ e → ◌≡◌ {A = Result (BoardParts × SessionEnd) DarkParts} (Ok (here, end)) (session_answer board a.device e) → LeavesOutputs e given → WasDone
  was_done (With (Ok ended)) same is has =
      let both = oks (sessions.Ended ended.end ended.turns) (with_device board a.device) is in
      let done = seen_done mode ended.end count (by_seen (sessions.Ended ended.end ended.turns) both.1) in
      record { ended = ended; with_it = same; done = done; front = page_front ended count given done has; here_is = both.0 }
  was_done (With (Err HasLongInputs)) same is has =
      absurd (let clash : ◌≡◌ {A = Result ℕ JobEnd} (Err job_ends.LongInput) (Ok count) = by_seen sessions.LongInput (oks sessions.LongInput (with_device board a.device) is).1 in cc)
  was_done (With (Err HasNoPlace)) same is has =
      absurd (let clash : ◌≡◌ {A = Result ℕ JobEnd} (Err job_ends.NoPlace) (Ok count) = by_seen sessions.NoPlace (oks sessions.NoPlace (with_device board a.device) is).1 in cc)
  was_done call_ends.OutOfMemory same is has =
      absurd (let clash : ◌≡◌ {A = Result ℕ JobEnd} (Err job_ends.NoMemory) (Ok count) = by_seen sessions.NoMemory (oks sessions.NoMemory (with_device board a.device) is).1 in cc)
  was_done WithoutPower same is has =
      absurd (let clash : ◌≡◌ {A = Result (BoardParts × SessionEnd) DarkParts} (Ok (here, end)) (Err _) = is in cc)

  this : WasDone
  this = was_done a.end refl a.answers a.outputs

  pub outputs_did : SessionDid (told_in mode) image inputs board (Ok (here, take count given))
  outputs_did = record {
    device = a.device;
    end = a.end;
    ran = a.ran;
    answers =
        let told : ◌≡◌ {A = Ended (Result (List ℕ) JobEnd)} (told_end (told_in mode) a.end) (With (Ok this.ended.outputs)) =
        ap (λ (e : Ended (Result PalEnd Unbegun)). told_end (told_in mode) e) this.with_it
        ∙ ap (λ (r : Result (List ℕ) JobEnd). let ended : Ended (Result (List ℕ) JobEnd) = With r in ended) (done_told mode this.ended.end [] count this.ended this.done) in
        rw (this.here_is, this.front, told) refl;
  }

  -- it ran
  ran_it : (e : Fused DigestDevice × Option PalEnd) (why : Option Unbegun) → SessionEnds why e (fused_device board) a.device a.end → IfSome e.1 KeepsOutputs → HasBlob (take count given)
  ran_it e (Some why) ends keeps =
      absurd (let clash : ◌≡◌ {A = Ended (Result PalEnd Unbegun)} (With (Ok this.ended)) (With (Err why)) = sym this.with_it ∙ ends.1 in cc)
  ran_it (d, None) None (Runs new_is end_is) keeps =
      absurd (let clash : ◌≡◌ {A = Ended (Result PalEnd Unbegun)} (With (Ok this.ended)) WithoutPower = sym this.with_it ∙ end_is in cc)
  ran_it (d, Some ended) None (Runs new_is end_is) keeps =
      let ends : ◌≡◌ {A = Ended (Result PalEnd Unbegun)} (With (Ok this.ended)) (With (Ok ended)) = sym this.with_it ∙ end_is in
      let same : this.ended ≡ ended = cc in
      let kept : KeepsBlob this.ended.end this.ended.outputs = subst (λ (p : PalEnd). KeepsBlob p.end p.outputs) (sym same) keeps in
      let blob : HasBlob this.ended.outputs = rw this.done at kept in
      subst HasBlob (sym this.front) blob
  ran_it e None (HasNoMemory new_is end_is) keeps =
      absurd (let clash : ◌≡◌ {A = Ended (Result PalEnd Unbegun)} (With (Ok this.ended)) call_ends.OutOfMemory = sym this.with_it ∙ end_is in cc)

  pub outputs_kept : IfSome (on_device (quiet_plan image inputs job_nonce) (fused_device board)).1 KeepsOutputs → HasBlob (take count given)
  outputs_kept keeps = ran_it (on_device (quiet_plan image inputs job_nonce) (fused_device board)) (unbegun (is_roomy board.memory.marks) inputs) a.ran.ended keeps
