-- Sessions of jobs, from what the parts of them ensure.
use Rattle.std.proofs.Common.{◌≡◌, ◌≤◌, ◌+◌, ℕ, zero, suc, List, [], ◌++◌, length, take, drop, sym, refl, ap, subst, ◌∙◌, inl, inr, arith, Bool, true, false, Option, Some, None, Result, Ok, Err}
use Rattle.std.proofs.Common.{length-take, length-drop, length-append}
use Rattle.std.proofs.Math.Seq.{take-append_seam, drop-append_seam}
use Rattle.byteorder.specs.Endian.{big_number, big_bytes}
use Rattle.byteorder.specs.Numbers.{big_number-reads_back}
use Rattle.std.specs.Prelude.{nat_le, nat_lt, ◌==◌, IfSome}
use Rattle.std.proofs.lemmas.Bool.{cases_Bool, leb-true, le-leb, lt-leb}
use Rattle.flk_base.specs.declared.fuse.PowerLost.{PowerLost}
use Rattle.flk_base.specs.Plan.{Plan, Return, Ask, ask, ◌>>=◌}
use Rattle.flk_base.specs.Stop.{Fused, then_fused, reported, reported_into, over}
use Rattle.flk_base.specs.StopLaws.{fused-bind}
use Rattle.i386_profile.specs.declared.operands.Reg.TheVariants.{Eax, Ebx, Edx, Edi}
use Rattle.i386_profile.specs.Flags.{get}
use Rattle.i386_profile.specs.declared.cpu.Cpu.{Cpu}
use Rattle.i386_profile.specs.declared.cpu.FaultKind.TheVariants.{Segment}
use Rattle.i386_profile.specs.Effects.{State, Outcome, GoesOn, CallsGate, Faults, state}
use Rattle.machine_memory.specs.Writes.{part, written}
use Rattle.machine_memory.specs.Contents.{Contents}
use Rattle.machine_memory.specs.ArmedWrites.{Armed}
use Rattle.tpm_state.specs.Refusals.Create as creates
use Rattle.seal_device.specs.Blobs.{blob_counter}
use Rattle.seal_device.specs.Refusals.Unseal as unseals
use Rattle.seal_device.specs.Sealed.{longest_sealed}
use Rattle.seal_device.specs.Commands.{Command, Seal, Reply, act, costs}
use Rattle.seal_device.specs.Refusals.Seal as seals
use Rattle.seal_device.specs.Digests.{DigestDevice, digests, on_device}
use Rattle.seal_device.specs.Faults.{power_lost}
use Rattle.late_launch.specs.declared.ends.End.{End}
use Rattle.late_launch.specs.declared.ends.End.TheVariants.{Done, Fault, Budget, Refused}
use Rattle.late_launch.specs.States.{LaunchedParts, session_device}
use Rattle.slb_core.specs.declared.services.Service.{Service}
use Rattle.slb_core.specs.declared.services.Service.TheVariants as services
use Rattle.slb_core.specs.Turns.{executed}
use Rattle.slb_core.specs.Services.{TurnEnd, Next, Over, fault_segment, lies_in, outputs_offset, longest_job_outputs, kept_offset, to_keep, comes_to_in_job, service_of, service_gate, turned, turn}
use Rattle.slb_core.specs.Pal.{Permits, Outside, CodeStart, PalEnd, CodeEnd, after_writes, followed, outside, pal}
use Rattle.slb_core.proofs.WriteLemmas.{ReturnsOnly, only_bind, Any, only_any, only_fused}
use Rattle.slb_core.specs.JobInputs.{Asked}
use Rattle.slb_core.specs.JobInputs.{mode_number, mode_of, job_inputs, asked_of, CanBeAsked}
use Rattle.slb_core.specs.declared.job_inputs.Mode.{Mode}
use Rattle.slb_core.specs.declared.job_inputs.Mode.TheVariants as modes
use Rattle.slb_core.specs.Jobs.{registers_with, with_kept, job_outputs, sealed_end, seals_after, runs_with, born, steps_from, steps, in_mode, runs_code, KeepsBlob}
use Rattle.slb_core.specs.Sessions.{permits_of}
use Rattle.slb_core.specs.Spans.{with_region}
use Rattle.slb_core.specs.Reports.{count_of, AreOutputs, StandsIn, TurnEnds, IsLater, CodeEnds, PalEnds, start_in, code_seen}
use Rattle.slb_core.specs.declared.services.Turned.{Turned}
use Rattle.slb_core.specs.declared.services.Turned.TheVariants as turned
use Rattle.slb_core.specs.declared.pal.Ended.{Ended}
use Rattle.slb_core.specs.declared.pal.CodeEnded.{CodeEnded}

-- ---- to end the code of a job

pub keep_many : (s : State) → nat_le (get s.cpu Ebx) longest_job_outputs ≡ false → to_keep s ≡ fault_segment
unfolding to_keep
keep_many s many = rw many refl

pub keep_long : (s : State) → nat_le (get s.cpu Ebx) longest_job_outputs ≡ true → nat_le (get s.cpu Edx) longest_sealed ≡ false → to_keep s ≡ fault_segment
unfolding to_keep
keep_long s few long = rw (few, long) refl

pub keep_so : (s : State) → nat_le (get s.cpu Ebx) longest_job_outputs ≡ true → nat_le (get s.cpu Edx) longest_sealed ≡ true
    → to_keep s ≡ Over (Done (get s.cpu Ebx)) (part s.bytes outputs_offset (get s.cpu Ebx)) (part s.bytes kept_offset (get s.cpu Edx))
unfolding to_keep
keep_so s few short = rw (few, short) refl

-- a part of the region is as long as it is said to be
pub part_long : (list : List ℕ) (at count : ℕ) → at + count ≤ length list → length (part list at count) ≡ count
part_long list at count fits = omega (arith, length-take count (drop at list), length-drop at list)

-- what was read into the front of a buffer stands there
pub front_read : (front rest : List ℕ) (count : ℕ) → length front ≡ count → take count (front ++ rest) ≡ front
front_read front rest count long = subst (λ (n : ℕ). take n (front ++ rest) ≡ front) long (take-append_seam front rest)

module _ (session after : LaunchedParts) (cpu : Cpu) (outputs : List ℕ) (same : after ≡ session) where
  abbrev s : State
  s = state cpu session.region

  pub ends_many : nat_le (get cpu Ebx) longest_job_outputs ≡ false
      → TurnEnds (on_device (Return (to_keep s)) (session_device session)) session after cpu outputs (Ok (turned.Over (record { end = Fault Segment; kept = 0 })))
  ends_many many = rw (keep_many s many, same) (record { device = refl; others = refl; answers = (refl, (record { same = refl; few = omega arith }, refl)) })

  pub ends_long : nat_le (get cpu Ebx) longest_job_outputs ≡ true → nat_le (get cpu Edx) longest_sealed ≡ false
      → TurnEnds (on_device (Return (to_keep s)) (session_device session)) session after cpu outputs (Ok (turned.Over (record { end = Fault Segment; kept = 0 })))
  ends_long few long = rw (keep_long s few long, same) (record { device = refl; others = refl; answers = (refl, (record { same = refl; few = omega arith }, refl)) })

  pub ends_keeping : nat_le (get cpu Ebx) longest_job_outputs ≡ true → nat_le (get cpu Edx) longest_sealed ≡ true → length session.region ≡ 65536
      → part session.region outputs_offset (get cpu Ebx) ≡ take (get cpu Ebx) outputs
      → TurnEnds (on_device (Return (to_keep s)) (session_device session)) session after cpu outputs (Ok (turned.Over (record { end = Done (get cpu Ebx); kept = get cpu Edx })))
  ends_keeping few short whole read =
      let count_few = leb-true (get cpu Ebx) longest_job_outputs few in
      let kept_short = leb-true (get cpu Edx) longest_sealed short in
      let long : length (part session.region kept_offset (get cpu Edx)) ≡ get cpu Edx = part_long session.region kept_offset (get cpu Edx) (omega arith) in
      rw (keep_so s few short, same) (record {
        device = refl;
        others = refl;
        answers = (
          ap (λ (n : ℕ). let answer : Result Turned PowerLost = Ok (turned.Over (record { end = Done (get cpu Ebx); kept = n })) in answer) (sym long),
          (record { same = read; few = omega arith }, ap (λ (n : ℕ). part session.region kept_offset n) (sym long)),
        );
      })

-- ---- code, and what follows it

-- the same session, and later the same once more
pub later_still : (first now after : LaunchedParts) → IsLater first now → IsLater now after → IsLater first after
later_still first now after since later = record {
  saved = later.saved ∙ since.saved;
  area = later.area ∙ since.area;
  around = later.around ∙ ap (λ (m : Contents). record m { bytes = after.around.bytes }) since.around;
}

-- code that lost its power, whatever was to follow
pub code_lost : (p : Plan Command Reply CodeEnd) (f : CodeEnd → Plan Command Reply PalEnd) (before after : LaunchedParts) (writes : List Armed) (outputs : List ℕ)
    → CodeEnds (on_device p (session_device before)) before after writes outputs (Err power_lost)
    → PalEnds (on_device (p >>= f) (session_device before)) before after writes outputs (Err power_lost)
code_lost p f before after writes outputs e =
    subst (λ (end : Fused DigestDevice × Option PalEnd). PalEnds end before after writes outputs (Err power_lost))
    (sym (fused-bind costs (act digests) p f (session_device before))) (by_end (on_device p (session_device before)) e)
  where
    by_end : (end : Fused DigestDevice × Option CodeEnd) → CodeEnds end before after writes outputs (Err power_lost)
        → PalEnds (then_fused costs (act digests) f end) before after writes outputs (Err power_lost)
    by_end (d, None) e = record { device = e.device; later = e.later; answers = refl }
    by_end (d, Some c) e =
        absurd (let clash : ◌≡◌ {A = Result CodeEnded PowerLost} (Err power_lost) (Ok (record { end = c.ended.end; turns = c.ended.turns; kept = length c.kept })) = e.answers.0 in cc)

-- the end of code is the one that is seen
pub is_seen : (c : CodeEnd) (code : CodeEnded) (after : LaunchedParts) (writes : List Armed) (outputs : List ℕ)
    → ◌≡◌ {A = Result CodeEnded PowerLost} (Ok code) (Ok (record { end = c.ended.end; turns = c.ended.turns; kept = length c.kept }))
    → after.around.bytes ≡ c.ended.outside.bytes → writes ≡ c.ended.outside.writes
    → AreOutputs c.ended.end c.ended.outputs outputs → StandsIn after.region c.kept
    → c ≡ code_seen code after writes outputs
is_seen c code after writes outputs is bytes_are writes_are outputs_are stands =
    let same : ◌≡◌ {A = CodeEnded} code (record { end = c.ended.end; turns = c.ended.turns; kept = length c.kept }) = cc in
    rw (same, bytes_are, writes_are, ← outputs_are.same, ← stands) refl

-- code that ended, and then a plan that ended so from what is seen
pub code_then : (p : Plan Command Reply CodeEnd) (f : CodeEnd → Plan Command Reply PalEnd) (before now after : LaunchedParts) (left writes : List Armed) (given outputs : List ℕ) (code : CodeEnded) (answer : Result Ended PowerLost)
    → CodeEnds (on_device p (session_device before)) before now left given (Ok code)
    → PalEnds (on_device (f (code_seen code now left given)) (session_device now)) now after writes outputs answer
    → PalEnds (on_device (p >>= f) (session_device before)) before after writes outputs answer
code_then p f before now after left writes given outputs code answer e rest =
    subst (λ (end : Fused DigestDevice × Option PalEnd). PalEnds end before after writes outputs answer)
    (sym (fused-bind costs (act digests) p f (session_device before))) (by_end (on_device p (session_device before)) e)
  where
    by_end : (end : Fused DigestDevice × Option CodeEnd) → CodeEnds end before now left given (Ok code)
        → PalEnds (then_fused costs (act digests) f end) before after writes outputs answer
    by_end (d, None) e = absurd (let clash : ◌≡◌ {A = Result CodeEnded PowerLost} (Ok code) (Err power_lost) = e.answers in cc)
    by_end (d, Some c) e =
        let seen = is_seen c code now left given e.answers.0 e.answers.1.0 e.answers.1.1.0 e.answers.1.1.1.0 e.answers.1.1.1.1 in
        let same : on_device (f (code_seen code now left given)) (session_device now) ≡ on_device (f c) d =
        ap (λ (x : CodeEnd). on_device (f x) (session_device now)) (sym seen) ∙ ap (λ (b : Fused DigestDevice). on_device (f c) b) e.device in
        record {
          device = rest.device ∙ ap (λ (end : Fused DigestDevice × Option PalEnd). end.0) same;
          later = later_still before now after e.later rest.later;
          answers = (rw (← same) rest.answers);
        }

-- code that ended, with which its session ends
pub code_ended : (p : Plan Command Reply CodeEnd) (before after : LaunchedParts) (writes : List Armed) (outputs : List ℕ) (code : CodeEnded)
    → CodeEnds (on_device p (session_device before)) before after writes outputs (Ok code)
    → PalEnds (on_device (p >>= λ (code : CodeEnd). Return code.ended) (session_device before)) before after writes outputs (Ok (record { end = code.end; turns = code.turns }))
code_ended p before after writes outputs code e =
    subst (λ (end : Fused DigestDevice × Option PalEnd). PalEnds end before after writes outputs (Ok (record { end = code.end; turns = code.turns })))
    (sym (fused-bind costs (act digests) p (λ (code : CodeEnd). Return code.ended) (session_device before))) (by_end (on_device p (session_device before)) e)
  where
    by_end : (end : Fused DigestDevice × Option CodeEnd) → CodeEnds end before after writes outputs (Ok code)
        → PalEnds (then_fused costs (act digests) (λ (code : CodeEnd). Return code.ended) end) before after writes outputs (Ok (record { end = code.end; turns = code.turns }))
    by_end (d, None) e = absurd (let clash : ◌≡◌ {A = Result CodeEnded PowerLost} (Ok code) (Err power_lost) = e.answers in cc)
    by_end (d, Some c) e =
        let is : ◌≡◌ {A = Result CodeEnded PowerLost} (Ok code) (Ok (record { end = c.ended.end; turns = c.ended.turns; kept = length c.kept })) = e.answers.0 in
        let same : ◌≡◌ {A = CodeEnded} code (record { end = c.ended.end; turns = c.ended.turns; kept = length c.kept }) = cc in
        record { device = e.device; later = e.later; answers = (rw same refl, (e.answers.1.0, (e.answers.1.1.0, e.answers.1.1.1.0))) }

-- ---- the state that was kept is put in its place first

module _ (session put : LaunchedParts) (start cpu : Cpu) (budget : ℕ) (asked : Asked) (kept : List ℕ) (id : ℕ) (ahead : Bool) (writes : List Armed)
    (p : put ≡ with_region session (written session.region kept_offset kept))
    (r : cpu ≡ registers_with start (length asked.own) (length asked.blob) (length kept)) where
  -- what runs then
  abbrev pub put_plan : Plan Command Reply CodeEnd
  put_plan = pal true (permits_of put) budget 0 (state cpu put.region) (outside put.around.bytes writes)

  same_plan : on_device (runs_with (start_in session start budget writes) asked kept id ahead) (session_device session)
      ≡ on_device (put_plan >>= λ (code : CodeEnd). seals_after code.ended.end id ahead code) (session_device put)
  same_plan = rw (p, r) refl

  since_put : IsLater session put
  since_put = rw p (record { saved = refl; area = refl; around = refl })

  from_put : (after : LaunchedParts) (left : List Armed) (outputs : List ℕ) (answer : Result Ended PowerLost)
      → PalEnds (on_device (put_plan >>= λ (code : CodeEnd). seals_after code.ended.end id ahead code) (session_device put)) put after left outputs answer
      → PalEnds (on_device (runs_with (start_in session start budget writes) asked kept id ahead) (session_device session)) session after left outputs answer
  from_put after left outputs answer e =
      let all = subst (λ (end : Fused DigestDevice × Option PalEnd). PalEnds end put after left outputs answer) (sym same_plan) e in
      record { device = all.device; later = later_still session put after since_put all.later; answers = all.answers }

  pub put_lost : (after : LaunchedParts) (left : List Armed) (outputs : List ℕ)
      → CodeEnds (on_device put_plan (session_device put)) put after left outputs (Err power_lost)
      → PalEnds (on_device (runs_with (start_in session start budget writes) asked kept id ahead) (session_device session)) session after left outputs (Err power_lost)
  put_lost after left outputs e = from_put after left outputs (Err power_lost) (code_lost put_plan (λ (code : CodeEnd). seals_after code.ended.end id ahead code) put after left outputs e)

  pub put_then : (now after : LaunchedParts) (left : List Armed) (given outputs : List ℕ) (code : CodeEnded) (answer : Result Ended PowerLost)
      → CodeEnds (on_device put_plan (session_device put)) put now left given (Ok code)
      → PalEnds (on_device (seals_after code.end id ahead (code_seen code now left given)) (session_device now)) now after left outputs answer
      → PalEnds (on_device (runs_with (start_in session start budget writes) asked kept id ahead) (session_device session)) session after left outputs answer
  put_then now after left given outputs code answer e rest =
      from_put after left outputs answer
      (code_then put_plan (λ (code : CodeEnd). seals_after code.ended.end id ahead code) put now after left left given outputs code answer e rest)

-- ---- a command, and what follows its reply

-- a value that was reported is the one of the reply
pub reported_ok : {X E F : Type 0} (error : E → F) (lost : F) (told : Option (Result X E)) (x : X)
    → ◌≡◌ {A = Result X F} (Ok x) (reported error lost told) → told ≡ Some (Ok x)
reported_ok {X} {E} {F} error lost None x is = absurd (let clash : ◌≡◌ {A = Result X F} (Ok x) (Err lost) = is in cc)
reported_ok {X} {E} {F} error lost (Some (Ok y)) x is =
    let same : x ≡ y = (let both : ◌≡◌ {A = Result X F} (Ok x) (Ok y) = is in cc) in
    ap (λ (z : X). let told : Option (Result X E) = Some (Ok z) in told) (sym same)
reported_ok {X} {E} {F} error lost (Some (Err r)) x is = absurd (let clash : ◌≡◌ {A = Result X F} (Ok x) (Err (error r)) = is in cc)

-- bytes that were reported into a buffer
pub record IsReportedInto {E : Type 0} (buffer : List ℕ) (told : Option (Result (List ℕ) E)) (size : ℕ) (out : List ℕ) : Type 0 where
  pub bytes : List ℕ
  pub told_is : told ≡ Some (Ok bytes)
  pub size_is : size ≡ length bytes
  pub out_is : out ≡ over bytes buffer
  pub front : take size out ≡ bytes

pub reported_into_ok : {E F : Type 0} (buffer : List ℕ) (error : E → F) (lost : F) (told : Option (Result (List ℕ) E)) (size : ℕ) (out : List ℕ)
    → ◌≡◌ {A = Result ℕ F × List ℕ} (Ok size, out) (reported_into buffer error lost told) → IsReportedInto buffer told size out
reported_into_ok {E} {F} buffer error lost None size out is =
    absurd (let clash : ◌≡◌ {A = Result ℕ F} (Ok size) (Err lost) = ap (λ (x : Result ℕ F × List ℕ). x.0) is in cc)
reported_into_ok {E} {F} buffer error lost (Some (Ok bytes)) size out is =
    let sizes : ◌≡◌ {A = Result ℕ F} (Ok size) (Ok (length bytes)) = ap (λ (x : Result ℕ F × List ℕ). x.0) is in
    let size_is : size ≡ length bytes = cc in
    let out_is : out ≡ over bytes buffer = ap (λ (x : Result ℕ F × List ℕ). x.1) is in
    record {
      bytes = bytes;
      told_is = refl;
      size_is = size_is;
      out_is = out_is;
      front = ap (λ (n : ℕ). take n out) size_is ∙ ap (λ (xs : List ℕ). take (length bytes) xs) out_is ∙ take-append_seam bytes (drop (length bytes) buffer);
    }
reported_into_ok {E} {F} buffer error lost (Some (Err r)) size out is =
    absurd (let clash : ◌≡◌ {A = Result ℕ F} (Ok size) (Err (error r)) = ap (λ (x : Result ℕ F × List ℕ). x.0) is in cc)

-- a session whose device alone has changed
pub only_device : (before now : LaunchedParts) → now ≡ record before { device = now.device; fuse = now.fuse } → IsLater before now
only_device before now same = rw same (record { saved = refl; area = refl; around = refl })

-- it runs code with the same
pub start_on : (before now : LaunchedParts) (start : Cpu) (budget : ℕ) (writes : List Armed) → now ≡ record before { device = now.device; fuse = now.fuse }
    → start_in before start budget writes ≡ start_in now start budget writes
start_on before now start budget writes same = rw same refl

after_reply : {X : Type 0} (c : Command) (next : Reply c → Plan Command Reply X) (end : Fused DigestDevice × Option (Reply c)) (d : Fused DigestDevice) (reply : Reply c)
    → d ≡ end.0 → end.1 ≡ Some reply → then_fused costs (act digests) next end ≡ on_device (next reply) d
after_reply c next (e, None) d reply same is = absurd (let clash : ◌≡◌ {A = Option (Reply c)} None (Some reply) = is in cc)
after_reply c next (e, Some r) d reply same is =
    let replies : r ≡ reply = (let both : ◌≡◌ {A = Option (Reply c)} (Some r) (Some reply) = is in cc) in
    ap (λ (x : Reply c). on_device (next x) e) replies ∙ ap (λ (b : Fused DigestDevice). on_device (next reply) b) (sym same)

-- a command that had this reply, and then a plan that ended so
pub reply_then : (c : Command) (next : Reply c → Plan Command Reply PalEnd) (reply : Reply c) (before now after : LaunchedParts) (writes : List Armed) (outputs : List ℕ) (answer : Result Ended PowerLost)
    → session_device now ≡ (on_device (ask c) (session_device before)).0 → (on_device (ask c) (session_device before)).1 ≡ Some reply
    → now ≡ record before { device = now.device; fuse = now.fuse }
    → PalEnds (on_device (next reply) (session_device now)) now after writes outputs answer
    → PalEnds (on_device (Ask c next) (session_device before)) before after writes outputs answer
reply_then c next reply before now after writes outputs answer device replied same rest =
    let whole : on_device (Ask c next) (session_device before) ≡ on_device (next reply) (session_device now) =
    fused-bind costs (act digests) (ask c) next (session_device before)
    ∙ after_reply c next (on_device (ask c) (session_device before)) (session_device now) reply device replied in
    let later = later_still before now after (only_device before now same) rest.later in
    rw whole (record { device = rest.device; later = later; answers = rest.answers })

-- ---- the state that was sealed

module _ (session after : LaunchedParts) (code : CodeEnded) (count id : ℕ) (ahead : Bool) (writes : List Armed) (outputs left blob : List ℕ) (size : ℕ)
    (done : code.end ≡ Done count) (same : after ≡ record session { device = after.device; fuse = after.fuse })
    (size_is : size ≡ length (job_outputs blob (take count outputs))) (left_is : take size left ≡ job_outputs blob (take count outputs)) (few : size ≤ 4096) where
  abbrev seen : CodeEnd
  seen = code_seen code session writes outputs

  seen_outputs : seen.ended.outputs ≡ take count outputs
  seen_outputs = ap (λ (e : End). take (count_of e) outputs) done

  answered_so : ◌≡◌ {A = Result Ended PowerLost} (Ok (record { end = Done size; turns = code.turns })) (Ok (record { end = (sealed_end seen.ended (Ok blob)).end; turns = code.turns }))
  answered_so = rw (size_is, seen_outputs) refl

  outputs_so : AreOutputs (Done size) (sealed_end seen.ended (Ok blob)).outputs left
  outputs_so = record { same = ap (job_outputs blob) seen_outputs ∙ sym left_is; few = few }

  sizes_so : length (job_outputs blob seen.ended.outputs) ≡ size
  sizes_so = ap (λ (xs : List ℕ). length (job_outputs blob xs)) seen_outputs ∙ sym size_is

  return_so : PalEnds (on_device (Return (sealed_end seen.ended (Ok blob))) (session_device after)) after after writes left (Ok (record { end = Done size; turns = code.turns }))
  return_so = record {
    device = refl;
    later = record { saved = refl; area = refl; around = refl };
    answers = (
      answered_so,
      (
        ap (λ (s : LaunchedParts). s.around.bytes) same,
        (
          refl,
          subst (λ (n : ℕ). AreOutputs (Done n) (sealed_end seen.ended (Ok blob)).outputs left) (sym sizes_so) outputs_so,
        ),
      ),
    );
  }

  pub sealed_so : session_device after ≡ (on_device (ask (Seal seen.kept (Some id) ahead)) (session_device session)).0
      → (on_device (ask (Seal seen.kept (Some id) ahead)) (session_device session)).1 ≡ Some (Ok blob)
      → PalEnds (on_device (seals_after code.end id ahead seen) (session_device session)) session after writes left (Ok (record { end = Done size; turns = code.turns }))
  sealed_so device told =
      subst (λ (e : End). PalEnds (on_device (seals_after e id ahead seen) (session_device session)) session after writes left (Ok (record { end = Done size; turns = code.turns }))) (sym done)
      (reply_then (Seal seen.kept (Some id) ahead) (λ (reply : Result (List ℕ) seals.Refusal). Return (sealed_end seen.ended reply)) (Ok blob) session after after writes left (Ok (record { end = Done size; turns = code.turns })) device told same return_so)

-- ---- how much the code of a job leaves

-- no more outputs and no more state than it may
pub record IsShort (count : ℕ) (kept : List ℕ) : Type 0 where
  pub few : count ≤ 1024
  pub short : length kept ≤ 2048

abbrev ShortTurn : TurnEnd → Type 0
ShortTurn (Next s) = Unit {0}
ShortTurn (Over end outputs kept) = IsShort (count_of end) kept

abbrev pub ShortCode : CodeEnd → Type 0
ShortCode code = IsShort (count_of code.ended.end) code.kept

keep_short : (s : State) → ShortTurn (to_keep s)
unfolding to_keep
keep_short s =
    elim (cases_Bool (nat_le (get s.cpu Ebx) longest_job_outputs)) [
      | inl few ↦ elim (cases_Bool (nat_le (get s.cpu Edx) longest_sealed)) [
        | inl short ↦ rw (few, short) (
            let count_few = leb-true (get s.cpu Ebx) longest_job_outputs few in
            let kept_short = leb-true (get s.cpu Edx) longest_sealed short in
            record { few = count_few; short = omega (arith, length-take (get s.cpu Edx) (drop kept_offset s.bytes)) })
        | inr long ↦ rw (few, long) (record { few = omega arith; short = omega arith })
      ]
      | inr many ↦ rw many (record { few = omega arith; short = omega arith })
    ]

in_job_short : (service : Option Service) (s : State) → ReturnsOnly ShortTurn (comes_to_in_job service s)
in_job_short (Some services.End) s = keep_short s
in_job_short (Some services.Extend) s = tt
in_job_short (Some services.ReadRegister) s = tt
in_job_short (Some services.Seal) s = tt
in_job_short (Some services.Unseal) s = tt
in_job_short (Some services.NewCounter) s = tt
in_job_short (Some services.ReadCounter) s = tt
in_job_short (Some services.Increment) s = tt
in_job_short (Some services.Random) s =
    elim (cases_Bool (lies_in (get s.cpu Edi) 20)) [
      | inl fits ↦ rw fits (λ reply. tt)
      | inr outside ↦ rw outside (record { few = omega arith; short = omega arith })
    ]
in_job_short None s = record { few = omega arith; short = omega arith }

turned_short : (outcome : Outcome) → ReturnsOnly ShortTurn (turned true outcome)
turned_short (GoesOn s) = tt
turned_short (CallsGate number s) =
    elim (cases_Bool (number == service_gate)) [
      | inl calls ↦ rw calls (in_job_short (service_of (get s.cpu Eax)) s)
      | inr other ↦ rw other (record { few = omega arith; short = omega arith })
    ]
turned_short (Faults kind) = record { few = omega arith; short = omega arith }

pub pal_short : (permits : Permits) (more done : ℕ) (s : State) (o : Outside) → ReturnsOnly ShortCode (pal true permits more done s o)
pal_short permits zero done s o = record { few = omega arith; short = omega arith }
pal_short permits (suc more) done s o =
    only_bind ShortTurn ShortCode (turn true s) (followed (done + 1) (after_writes permits (done + 1) o) (λ next. pal true permits more (done + 1) next (after_writes permits (done + 1) o)))
    (turned_short (executed s))
    (λ end short. elim end as (λ e. ShortTurn e → ReturnsOnly ShortCode (followed (done + 1) (after_writes permits (done + 1) o) (λ next. pal true permits more (done + 1) next (after_writes permits (done + 1) o)) e)) [
      | Next next ↦ λ any. pal_short permits more (done + 1) next (after_writes permits (done + 1) o)
      | Over end outputs kept ↦ λ so. so
    ] short)

-- so much is seen of it
pub seen_short : (permits : Permits) (budget : ℕ) (s : State) (o : Outside) (before after : LaunchedParts) (writes : List Armed) (outputs : List ℕ) (code : CodeEnded)
    → CodeEnds (on_device (pal true permits budget 0 s o) (session_device before)) before after writes outputs (Ok code)
    → (count_of code.end ≤ 1024) × (code.kept ≤ 2048)
seen_short permits budget s o before after writes outputs code e =
    by_end (on_device (pal true permits budget 0 s o) (session_device before)) e
    (only_fused costs (act digests) ShortCode (pal true permits budget 0 s o) (session_device before) (pal_short permits budget 0 s o))
  where
    by_end : (end : Fused DigestDevice × Option CodeEnd) → CodeEnds end before after writes outputs (Ok code) → IfSome end.1 ShortCode
        → (count_of code.end ≤ 1024) × (code.kept ≤ 2048)
    by_end (d, None) e short = absurd (let clash : ◌≡◌ {A = Result CodeEnded PowerLost} (Ok code) (Err power_lost) = e.answers in cc)
    by_end (d, Some c) e short =
        let is : ◌≡◌ {A = Result CodeEnded PowerLost} (Ok code) (Ok (record { end = c.ended.end; turns = c.ended.turns; kept = length c.kept })) = e.answers.0 in
        let same : ◌≡◌ {A = CodeEnded} code (record { end = c.ended.end; turns = c.ended.turns; kept = length c.kept }) = cc in
        rw same (short.few, short.short)

-- ---- the outputs of a session that ran a job's code

abbrev pub KeepsOutputs : PalEnd → Type 0
KeepsOutputs ended = KeepsBlob ended.end ended.outputs

seals_keep : (end : End) (id : ℕ) (ahead : Bool) (code : CodeEnd) → code.ended.end ≡ end → ReturnsOnly KeepsOutputs (seals_after end id ahead code)
seals_keep (Done n) id ahead code is = by_reply where
  by_reply : (reply : Result (List ℕ) seals.Refusal) → KeepsOutputs (sealed_end code.ended reply)
  by_reply (Ok blob) = record { blob = blob; own = code.ended.outputs; are = refl }
  by_reply (Err refusal) = tt
seals_keep (Fault kind) id ahead code is = rw is tt
seals_keep Budget id ahead code is = rw is tt
seals_keep (Refused why) id ahead code is = rw is tt

with_keeps : (start : CodeStart) (asked : Asked) (kept : List ℕ) (id : ℕ) (ahead : Bool) → ReturnsOnly KeepsOutputs (runs_with start asked kept id ahead)
with_keeps start asked kept id ahead =
    only_bind Any KeepsOutputs (pal true start.permits start.budget 0 (with_kept start.state asked kept) start.outside) (λ (code : CodeEnd). seals_after code.ended.end id ahead code)
    (only_any (pal true start.permits start.budget 0 (with_kept start.state asked kept) start.outside))
    (λ code any. seals_keep code.ended.end id ahead code refl)

born_keeps : (start : CodeStart) (asked : Asked) (reply : Result ℕ creates.Refusal) → ReturnsOnly KeepsOutputs (born start asked reply)
born_keeps start asked (Ok id) = with_keeps start asked [] id false
born_keeps start asked (Err refusal) = tt

steps_from_keeps : (start : CodeStart) (asked : Asked) (kept : List ℕ) (counter : Option ℕ) → ReturnsOnly KeepsOutputs (steps_from start asked kept counter)
steps_from_keeps start asked kept (Some id) = with_keeps start asked kept id true
steps_from_keeps start asked kept None = tt

steps_keep : (start : CodeStart) (asked : Asked) (reply : Result (List ℕ) unseals.Refusal) → ReturnsOnly KeepsOutputs (steps start asked reply)
steps_keep start asked (Ok kept) = steps_from_keeps start asked kept (blob_counter asked.blob)
steps_keep start asked (Err refusal) = tt

pub mode_keeps : (mode : Mode) (start : CodeStart) (asked : Asked) → runs_code mode ≡ true → ReturnsOnly KeepsOutputs (in_mode mode start asked)
mode_keeps modes.New start asked runs = λ reply. born_keeps start asked reply
mode_keeps modes.Step start asked runs = λ reply. steps_keep start asked reply
mode_keeps modes.Commit start asked runs = absurd (let clash : ◌≡◌ {A = Bool} false true = runs in cc)
mode_keeps modes.Probe start asked runs = absurd (let clash : ◌≡◌ {A = Bool} false true = runs in cc)

-- ---- the inputs of a job's session

mode_back : (mode : Mode) → mode_of (mode_number mode) ≡ Some mode
mode_back modes.New = refl
mode_back modes.Step = refl
mode_back modes.Commit = refl
mode_back modes.Probe = refl

-- the inputs that ask for something are read as what they ask for
pub inputs_read : (asked : Asked) → CanBeAsked asked → asked_of (job_inputs asked) ≡ Some asked
inputs_read asked can =
    let rest = asked.blob ++ asked.own in
    let count : big_number 2 (big_bytes 2 (length asked.blob) ++ rest) ≡ length asked.blob = big_number-reads_back 2 (length asked.blob) rest can.short in
    let fits : nat_le (length asked.blob) (length rest) ≡ true = le-leb (length asked.blob) (length rest) (omega (arith, length-append asked.blob asked.own)) in
    let taken : take (length asked.blob) rest ≡ asked.blob = take-append_seam asked.blob asked.own in
    let left : drop (length asked.blob) rest ≡ asked.own = drop-append_seam asked.blob asked.own in
    let whole : nat_lt (length (job_inputs asked)) 3 ≡ false = lt-leb (suc (length (job_inputs asked))) 3 (omega arith) in
    rw (whole, count, mode_back asked.mode, can.may, fits, taken, left) refl
