-- Sessions while no device write is armed.
use Rattle.std.proofs.Common.{◌≡◌, ◌≤◌, ◌<◌, ◌+◌, ◌-◌, ℕ, zero, suc, List, [], ◌++◌, length, replicate, slice_get, sym, refl, ap, subst, ◌∙◌, inl, inr, arith, Bool, true, false, Option, Some, None, Result, Ok, Err}
use Rattle.std.specs.Prelude.{IfSome}
use Rattle.std.proofs.lemmas.Bool.{cases_lt}
use Rattle.std.proofs.lemmas.List.{length-replicate}
use Rattle.std.proofs.Math.Seq.{take-length}
use Rattle.flk_base.specs.Plan.{Plan, Return, Ask, ask, Machine, ◌>>=◌}
use Rattle.flk_base.specs.Stop.{Fused, fused, then_fused}
use Rattle.flk_base.specs.StopLaws.{fused-bind}
use Rattle.i386_profile.specs.Effects.{State, state}
use Rattle.slb_image.specs.Fields.{image_of}
use Rattle.region_pool.specs.Places.{IsPlace}
use Rattle.region_pool.proofs.Frames.{slice_get-replicate, same_at_each}
use Rattle.region_pool.proofs.Search.{free-place, within-place}
use Rattle.machine_memory.specs.Writes.{written}
use Rattle.machine_memory.specs.Contents.{Contents, IsMemory, first_byte, frame_of}
use Rattle.machine_memory.proofs.Pieces.{writes-written}
use Rattle.tpm_state.specs.Refusals.Create as creates
use Rattle.tpm_state.specs.Refusals.Increment as increments
use Rattle.seal_device.specs.Blobs.{blob_counter}
use Rattle.seal_device.specs.Commands.{Command, Reply, Measure, Unseal, CheckNext, NewCounter, Increment, Seal, act, costs}
use Rattle.seal_device.specs.Digests.{DigestDevice, digests, on_device}
use Rattle.seal_device.specs.Refusals.Seal as seals
use Rattle.seal_device.specs.Refusals.Unseal as unseals
use Rattle.late_launch.specs.declared.ends.End.{End}
use Rattle.late_launch.specs.declared.ends.End.TheVariants.{Done, Fault, Budget, Refused}
use Rattle.late_launch.specs.Boards.{BoardParts, fused_device}
use Rattle.late_launch.specs.Ends.{closing, extend_each}
use Rattle.late_launch.specs.States.{image_in}
use Rattle.late_launch.specs.Regions.{input_page, inputs_offset}
use Rattle.late_launch.proofs.Apart.{part-written}
use Rattle.slb_core.specs.Services.{TurnEnd, Next, Over, turn}
use Rattle.slb_core.specs.Pal.{Permits, Outside, CodeStart, PalEnd, CodeEnd, outside, followed, pal}
use Rattle.slb_core.specs.declared.job_inputs.Mode.{Mode}
use Rattle.slb_core.specs.declared.job_inputs.Mode.TheVariants as modes
use Rattle.slb_core.specs.JobInputs.{Asked, asked_of}
use Rattle.slb_core.specs.Jobs.{with_kept, sealed_end, seals_after, runs_with, born, steps_from, steps, committed, commits, probed, in_mode, does_asked}
use Rattle.slb_core.specs.Sessions.{Setting, first_outside, inputs_in, first_registers, runs, closes, serving}
use Rattle.slb_core.proofs.WriteLemmas.{EndsSo, serving_only, only_fused}
use Rattle.session_driver.specs.Sessions.{area_at, setting_in, session_plan, wiped}
use Rattle.session_driver.specs.Answers.{ran_at, ended_answer, ended_leaves}
use Rattle.session_driver.specs.Quiet.{quiet_setting, quiet_plan, SameEnd, EndAlike, quiet_answer, QuietOutputs}
use Rattle.machine_memory.specs.ArmedWrites.{Armed}
use Rattle.late_launch.specs.Regions.{page}
use Rattle.slb_core.specs.Reports.{count_of}
use Rattle.slb_core.specs.Resume.{writes_until, after_each}

-- ---- plans that end alike

module _ {S : Type 0} (m : Machine Command Reply S) where
  abbrev ends : {X : Type 0} → Plan Command Reply X → Fused S → Fused S × Option X
  ends p b = fused costs m p b

  -- plans that end alike, and then plans that end alike from values that are alike
  bind_alike : {X Y Z W : Type 0} (Alike : X → Y → Type 0) (Later : Z → W → Type 0) (p : Plan Command Reply X) (q : Plan Command Reply Y)
      (f : X → Plan Command Reply Z) (g : Y → Plan Command Reply W) (b : Fused S)
      → EndAlike Alike (ends p b) (ends q b)
      → ((x : X) (y : Y) (b : Fused S) → Alike x y → EndAlike Later (ends (f x) b) (ends (g y) b))
      → EndAlike Later (ends (p >>= f) b) (ends (q >>= g) b)
  bind_alike {X} {Y} {Z} {W} Alike Later p q f g b first then_alike =
      subst (λ (e : Fused S × Option Z). EndAlike Later e (ends (q >>= g) b)) (sym (fused-bind costs m p f b))
      (subst (λ (e : Fused S × Option W). EndAlike Later (then_fused costs m f (ends p b)) e) (sym (fused-bind costs m q g b))
      (by_ends (ends p b) (ends q b) first))
    where
      by_ends : (e : Fused S × Option X) (o : Fused S × Option Y) → EndAlike Alike e o → EndAlike Later (then_fused costs m f e) (then_fused costs m g o)
      by_ends (e, None) (o, None) both = (both.0, tt)
      by_ends (e, Some x) (o, Some y) both =
          subst (λ (d : Fused S). EndAlike Later (ends (f x) e) (ends (g y) d)) both.0 (then_alike x y e both.1)
      by_ends (e, None) (o, Some y) both = absurd both.1
      by_ends (e, Some x) (o, None) both = absurd both.1

  -- the same plan, and then plans that end alike
  same_alike : {X Z W : Type 0} (Later : Z → W → Type 0) (p : Plan Command Reply X) (f : X → Plan Command Reply Z) (g : X → Plan Command Reply W) (b : Fused S)
      → ((x : X) (b : Fused S) → EndAlike Later (ends (f x) b) (ends (g x) b))
      → EndAlike Later (ends (p >>= f) b) (ends (p >>= g) b)
  same_alike {X} {Z} {W} Later p f g b then_alike =
      subst (λ (e : Fused S × Option Z). EndAlike Later e (ends (p >>= g) b)) (sym (fused-bind costs m p f b))
      (subst (λ (e : Fused S × Option W). EndAlike Later (then_fused costs m f (ends p b)) e) (sym (fused-bind costs m p g b))
      (by_end (ends p b)))
    where
      by_end : (e : Fused S × Option X) → EndAlike Later (then_fused costs m f e) (then_fused costs m g e)
      by_end (e, None) = (refl, tt)
      by_end (e, Some x) = then_alike x e

  -- ---- launched code

  record SameCode (some other : CodeEnd) : Type 0 where
    ended : SameEnd some.ended other.ended
    kept : some.kept ≡ other.kept

  same_end : (e : PalEnd) (o : Outside) → SameEnd e (record e { outside = o })
  same_end e o = record { end = refl; turns = refl; outputs = refl }

  module _ (bytes bytes' : List ℕ) (permits permits' : Permits) where
    abbrev here : Outside
    here = outside bytes []

    abbrev there : Outside
    there = outside bytes' []

    pal_alike : (job : Bool) (more done : ℕ) (s : State) (b : Fused S) → EndAlike SameCode (ends (pal job permits more done s here) b) (ends (pal job permits' more done s there) b)
    pal_alike job zero done s b = (refl, record { ended = record { end = refl; turns = refl; outputs = refl }; kept = refl })
    pal_alike job (suc more) done s b =
        same_alike SameCode (turn job s) (followed (done + 1) here (λ next. pal job permits more (done + 1) next here)) (followed (done + 1) there (λ next. pal job permits' more (done + 1) next there)) b
        (λ end b. by_turn (λ next b. pal_alike job more (done + 1) next b) end b)
      where
        by_turn : ((next : State) (b : Fused S) → EndAlike SameCode (ends (pal job permits more (done + 1) next here) b) (ends (pal job permits' more (done + 1) next there) b))
            → (end : TurnEnd) (b : Fused S)
            → EndAlike SameCode (ends (followed (done + 1) here (λ next. pal job permits more (done + 1) next here) end) b) (ends (followed (done + 1) there (λ next. pal job permits' more (done + 1) next there) end) b)
        by_turn again (Next next) b = again next b
        by_turn again (Over end outputs kept) b = (refl, record { ended = record { end = refl; turns = refl; outputs = refl }; kept = refl })

    -- ---- what a job's inputs ask for

    abbrev start_here : ℕ → State → CodeStart
    start_here budget s = record { budget = budget; permits = permits; state = s; outside = here }

    abbrev start_there : ℕ → State → CodeStart
    start_there budget s = record { budget = budget; permits = permits'; state = s; outside = there }

    abbrev Alike : Plan Command Reply PalEnd → Plan Command Reply PalEnd → Type 0
    Alike p q = (b : Fused S) → EndAlike SameEnd (ends p b) (ends q b)

    sealed_alike : (some other : PalEnd) (reply : Result (List ℕ) seals.Refusal) → SameEnd some other → SameEnd (sealed_end some reply) (sealed_end other reply)
    sealed_alike some other (Ok blob) same = record { end = rw same.outputs refl; turns = same.turns; outputs = rw same.outputs refl }
    sealed_alike some other (Err refusal) same = record { end = refl; turns = same.turns; outputs = refl }

    seals_alike : (id : ℕ) (ahead : Bool) (some other : CodeEnd) (b : Fused S) → SameCode some other
        → EndAlike SameEnd (ends (seals_after some.ended.end id ahead some) b) (ends (seals_after other.ended.end id ahead other) b)
    seals_alike id ahead some other b same =
        subst (λ (e : End). EndAlike SameEnd (ends (seals_after e id ahead some) b) (ends (seals_after other.ended.end id ahead other) b)) (sym same.ended.end) (by_end other.ended.end)
      where
        by_end : (e : End) → EndAlike SameEnd (ends (seals_after e id ahead some) b) (ends (seals_after e id ahead other) b)
        by_end (Done n) =
            subst (λ (kept : List ℕ). EndAlike SameEnd (ends (Ask (Seal kept (Some id) ahead) (λ reply. Return (sealed_end some.ended reply))) b) (ends (seals_after (Done n) id ahead other) b)) (sym same.kept)
            (same_alike SameEnd (ask (Seal other.kept (Some id) ahead)) (λ reply. Return (sealed_end some.ended reply)) (λ reply. Return (sealed_end other.ended reply)) b
            (λ reply b. (refl, sealed_alike some.ended other.ended reply same.ended)))
        by_end (Fault kind) = (refl, same.ended)
        by_end Budget = (refl, same.ended)
        by_end (Refused why) = (refl, same.ended)

    with_alike : (budget : ℕ) (s : State) (asked : Asked) (kept : List ℕ) (id : ℕ) (ahead : Bool) → Alike (runs_with (start_here budget s) asked kept id ahead) (runs_with (start_there budget s) asked kept id ahead)
    with_alike budget s asked kept id ahead b =
        bind_alike SameCode SameEnd (pal true permits budget 0 (with_kept s asked kept) here) (pal true permits' budget 0 (with_kept s asked kept) there)
        (λ (code : CodeEnd). seals_after code.ended.end id ahead code) (λ (code : CodeEnd). seals_after code.ended.end id ahead code) b
        (pal_alike true budget 0 (with_kept s asked kept) b) (λ some other b same. seals_alike id ahead some other b same)

    same_here : SameEnd (record { end = Done 0; turns = 0; outputs = []; outside = here }) (record { end = Done 0; turns = 0; outputs = []; outside = there })
    same_here = record { end = refl; turns = refl; outputs = refl }

    born_alike : (budget : ℕ) (s : State) (asked : Asked) (reply : Result ℕ creates.Refusal) → Alike (born (start_here budget s) asked reply) (born (start_there budget s) asked reply)
    born_alike budget s asked (Ok id) b = with_alike budget s asked [] id false b
    born_alike budget s asked (Err refusal) b = (refl, record { end = refl; turns = refl; outputs = refl })

    from_alike : (budget : ℕ) (s : State) (asked : Asked) (kept : List ℕ) (counter : Option ℕ) → Alike (steps_from (start_here budget s) asked kept counter) (steps_from (start_there budget s) asked kept counter)
    from_alike budget s asked kept (Some id) b = with_alike budget s asked kept id true b
    from_alike budget s asked kept None b = (refl, record { end = refl; turns = refl; outputs = refl })

    steps_alike : (budget : ℕ) (s : State) (asked : Asked) (reply : Result (List ℕ) unseals.Refusal) → Alike (steps (start_here budget s) asked reply) (steps (start_there budget s) asked reply)
    steps_alike budget s asked (Ok kept) b = from_alike budget s asked kept (blob_counter asked.blob) b
    steps_alike budget s asked (Err refusal) b = (refl, record { end = refl; turns = refl; outputs = refl })

    committed_alike : (reply : Result ℕ increments.Refusal) → SameEnd (committed here reply) (committed there reply)
    committed_alike (Ok value) = record { end = refl; turns = refl; outputs = refl }
    committed_alike (Err refusal) = record { end = refl; turns = refl; outputs = refl }

    commits_alike : (reply : Result ℕ unseals.Refusal) → Alike (commits here reply) (commits there reply)
    commits_alike (Ok id) b =
        same_alike SameEnd (ask (Increment id)) (λ reply. Return (committed here reply)) (λ reply. Return (committed there reply)) b (λ reply b. (refl, committed_alike reply))
    commits_alike (Err refusal) b = (refl, record { end = refl; turns = refl; outputs = refl })

    probed_alike : (counter : Option ℕ) (reply : Result (List ℕ) unseals.Refusal) → SameEnd (probed here counter reply) (probed there counter reply)
    probed_alike (Some id) (Ok kept) = record { end = refl; turns = refl; outputs = refl }
    probed_alike None (Ok kept) = record { end = refl; turns = refl; outputs = refl }
    probed_alike (Some id) (Err refusal) = record { end = refl; turns = refl; outputs = refl }
    probed_alike None (Err refusal) = record { end = refl; turns = refl; outputs = refl }

    mode_alike : (mode : Mode) (budget : ℕ) (s : State) (asked : Asked) → Alike (in_mode mode (start_here budget s) asked) (in_mode mode (start_there budget s) asked)
    mode_alike modes.New budget s asked b =
        same_alike SameEnd (ask NewCounter) (born (start_here budget s) asked) (born (start_there budget s) asked) b (λ reply b. born_alike budget s asked reply b)
    mode_alike modes.Step budget s asked b =
        same_alike SameEnd (ask (Unseal asked.blob)) (steps (start_here budget s) asked) (steps (start_there budget s) asked) b (λ reply b. steps_alike budget s asked reply b)
    mode_alike modes.Commit budget s asked b =
        same_alike SameEnd (ask (CheckNext asked.blob)) (commits here) (commits there) b (λ reply b. commits_alike reply b)
    mode_alike modes.Probe budget s asked b =
        same_alike SameEnd (ask (Unseal asked.blob)) (λ reply. Return (probed here (blob_counter asked.blob) reply)) (λ reply. Return (probed there (blob_counter asked.blob) reply)) b
        (λ reply b. (refl, probed_alike (blob_counter asked.blob) reply))

    asked_alike : (budget : ℕ) (s : State) (asked : Option Asked) → Alike (does_asked (start_here budget s) asked) (does_asked (start_there budget s) asked)
    asked_alike budget s None b = (refl, record { end = refl; turns = refl; outputs = refl })
    asked_alike budget s (Some asked) b = mode_alike asked.mode budget s asked b

    runs_alike : (job : Bool) (budget : ℕ) (s : State) (inputs : List ℕ) → Alike (runs job (start_here budget s) inputs) (runs job (start_there budget s) inputs)
    runs_alike true budget s inputs b = asked_alike budget s (asked_of inputs) b
    runs_alike false budget s inputs b =
        bind_alike SameCode SameEnd (pal false permits budget 0 s here) (pal false permits' budget 0 s there) (λ (code : CodeEnd). Return code.ended) (λ (code : CodeEnd). Return code.ended) b
        (pal_alike false budget 0 s b) (λ some other b same. (refl, same.ended))

    -- ---- a session

    closes_alike : (inputs nonce : List ℕ) (some other : PalEnd) (b : Fused S) → SameEnd some other → EndAlike SameEnd (ends (closes inputs nonce some) b) (ends (closes inputs nonce other) b)
    closes_alike inputs nonce some other b same =
        subst (λ (texts : List (List ℕ)). EndAlike SameEnd (ends (extend_each texts >>= λ done. Return some) b) (ends (closes inputs nonce other) b))
        (sym (ap (λ (e : End). closing inputs some.outputs e nonce) same.end ∙ ap (λ (xs : List ℕ). closing inputs xs other.end nonce) same.outputs))
        (same_alike SameEnd (extend_each (closing inputs other.outputs other.end nonce)) (λ done. Return some) (λ done. Return other) b (λ done b. (refl, same)))

    -- a session from this state, on these inputs
    served_alike : (job : Bool) (budget : ℕ) (s : State) (inputs nonce : List ℕ)
        → Alike (runs job (start_here budget s) inputs >>= closes inputs nonce) (runs job (start_there budget s) inputs >>= closes inputs nonce)
    served_alike job budget s inputs nonce b =
        bind_alike SameEnd SameEnd (runs job (start_here budget s) inputs) (runs job (start_there budget s) inputs) (closes inputs nonce) (closes inputs nonce) b
        (runs_alike job budget s inputs b) (λ some other b same. closes_alike inputs nonce some other b same)

-- the session that takes these inputs from a page
abbrev taking : Setting → ℕ → List ℕ → List ℕ → Plan Command Reply PalEnd
taking setting count inputs nonce =
    let image = image_of (image_in setting.region) in
    let start : CodeStart = record { budget = image.budget; permits = setting.permits; state = state (first_registers setting.start count) (written setting.region inputs_offset inputs); outside = outside setting.bytes [] } in
    runs image.job start inputs >>= closes inputs nonce

module _ (board : BoardParts) (first : ℕ) (image inputs nonce : List ℕ) (m : IsMemory board.memory) (free : IsPlace board.memory.marks 18 16 first) (short : length inputs ≤ 4096) where
  abbrev memory : Contents
  memory = board.memory

  fits : first_byte first + 73728 ≤ length memory.bytes
  fits =
      let there = within-place memory.marks 18 16 first (omega arith) free in
      let marks = m.frames in
      let size = m.size in
      omega arith

  abbrev setting : Setting
  setting = setting_in memory first image inputs

  -- the session takes its inputs from the page into which they were put
  taken : inputs_in setting (length inputs) (first_outside setting []) ≡ inputs
  taken =
      let there = fits in
      part-written memory.bytes (input_page (area_at first)) (length inputs) inputs refl (omega arith)

  quiet_taken : inputs_in (quiet_setting image inputs) (length inputs) (first_outside (quiet_setting image inputs) []) ≡ inputs
  quiet_taken = take-length inputs

  served_quietly : (b : Fused DigestDevice) → EndAlike SameEnd (on_device (serving setting (length inputs) nonce []) b) (on_device (serving (quiet_setting image inputs) (length inputs) nonce []) b)
  served_quietly b =
      subst (λ (xs : List ℕ). EndAlike SameEnd (on_device (taking setting (length inputs) xs nonce) b) (on_device (serving (quiet_setting image inputs) (length inputs) nonce []) b)) (sym taken)
      (subst (λ (xs : List ℕ). EndAlike SameEnd (on_device (taking setting (length inputs) inputs nonce) b) (on_device (taking (quiet_setting image inputs) (length inputs) xs nonce) b)) (sym quiet_taken)
      (served_alike (act digests) setting.bytes inputs setting.permits (quiet_setting image inputs).permits (image_of (image_in setting.region)).job (image_of (image_in setting.region)).budget
      (state (first_registers setting.start (length inputs)) (written setting.region inputs_offset inputs)) inputs nonce b))

  pub ends_quietly : EndAlike SameEnd (ran_at board first image inputs nonce []) (on_device (quiet_plan image inputs nonce) (fused_device board))
  ends_quietly =
      same_alike (act digests) SameEnd (ask (Measure image)) (λ done. serving setting (length inputs) nonce []) (λ done. serving (quiet_setting image inputs) (length inputs) nonce []) (fused_device board)
      (λ done b. served_quietly b)

  -- ---- memory is as it was

  zeros_long : length (replicate {A = ℕ} (first_byte 18) 0) ≡ 73728
  zeros_long = length-replicate {A = ℕ} (first_byte 18) 0

  -- a byte of the area
  area_zero : (address : ℕ) → first_byte first ≤ address → address < first_byte first + 73728 → slice_get memory.bytes address ≡ Some 0
  area_zero address from before =
      m.free_is_zero (frame_of address) (free-place memory.marks 18 16 first free (frame_of address) (omega arith) (omega arith)) address refl

  pub wiped_again : wiped first (written memory.bytes (input_page (area_at first)) inputs) ≡ memory.bytes
  wiped_again =
      let there = fits in
      let zeros = zeros_long in
      let one = writes-written memory.bytes (input_page (area_at first)) inputs (omega arith) in
      let long = one.long in
      let two = writes-written (written memory.bytes (input_page (area_at first)) inputs) (first_byte first) (replicate (first_byte 18) 0) (omega arith) in
      same_at_each (wiped first (written memory.bytes (input_page (area_at first)) inputs)) memory.bytes (two.long ∙ one.long)
      (λ k within. elim (cases_lt k (first_byte first)) [
        | inl below ↦ two.below k below ∙ one.below k (omega arith)
        | inr from ↦ elim (cases_lt k (first_byte first + 73728)) [
          | inl before ↦ two.inside (k - first_byte first) k (omega arith) (omega arith)
              ∙ slice_get-replicate (first_byte 18) 0 (k - first_byte first) (omega arith)
              ∙ sym (area_zero k from before)
          | inr above ↦ two.above k (omega arith) ∙ one.above k (omega arith)
        ]
      ])

  no_writes : (last : ℕ) → writes_until last [] ≡ []
  no_writes zero = refl
  no_writes (suc last) = ap (λ (writes : List Armed). writes ++ []) (no_writes last)

  -- what is outside when it ended
  outside_so : (ended : PalEnd) → EndsSo setting.permits setting.bytes [] ended → ended.outside.bytes ≡ setting.bytes
  outside_so ended done = done.bytes_are ∙ ap (λ (writes : List Armed). after_each setting.permits setting.bytes writes) (no_writes ended.turns)

  answered_so : (e q : Fused DigestDevice × Option PalEnd) → EndAlike SameEnd e q → IfSome e.1 (EndsSo setting.permits setting.bytes []) → ended_answer board first e ≡ quiet_answer board q
  answered_so (d, None) (g, None) both done = rw both.0 refl
  answered_so (d, Some ended) (g, Some other) both done =
      let bytes : wiped first ended.outside.bytes ≡ memory.bytes = ap (wiped first) (outside_so ended done) ∙ wiped_again in
      rw (both.0, both.1.end, both.1.turns, bytes) refl
  answered_so (d, None) (g, Some other) both done = absurd both.1
  answered_so (d, Some ended) (g, None) both done = absurd both.1

  pub answers_quietly : ended_answer board first (ran_at board first image inputs nonce []) ≡ quiet_answer board (on_device (quiet_plan image inputs nonce) (fused_device board))
  answers_quietly =
      answered_so (ran_at board first image inputs nonce []) (on_device (quiet_plan image inputs nonce) (fused_device board)) ends_quietly
      (only_fused costs (act digests) (EndsSo setting.permits setting.bytes []) (session_plan setting image inputs nonce []) (fused_device board)
      (λ reply. serving_only setting (length inputs) nonce []))

leaves_so : (e q : Fused DigestDevice × Option PalEnd) (left : List Armed) (given : List ℕ) → EndAlike SameEnd e q → ended_leaves e left given → QuietOutputs q given
leaves_so (d, None) (g, None) left given both leaves = leaves
leaves_so (d, Some ended) (g, Some other) left given both leaves = record {
  count = ap count_of (sym both.1.end) ∙ leaves.count ∙ ap (λ (xs : List ℕ). length xs) both.1.outputs;
  page_is = leaves.outputs ∙ ap page both.1.outputs;
}
leaves_so (d, None) (g, Some other) left given both leaves = absurd both.1
leaves_so (d, Some ended) (g, None) left given both leaves = absurd both.1

-- and it leaves its outputs
pub leaves_quietly : (board : BoardParts) (first : ℕ) (image inputs nonce : List ℕ) (left : List Armed) (given : List ℕ) → IsMemory board.memory → IsPlace board.memory.marks 18 16 first → length inputs ≤ 4096
    → ended_leaves (ran_at board first image inputs nonce []) left given
    → QuietOutputs (on_device (quiet_plan image inputs nonce) (fused_device board)) given
leaves_quietly board first image inputs nonce left given m free short leaves =
    leaves_so (ran_at board first image inputs nonce []) (on_device (quiet_plan image inputs nonce) (fused_device board)) left given
    (ends_quietly board first image inputs nonce m free short) leaves
