-- That a session which the driver ran is a step of the platform by digests.
use Rattle.std.proofs.Common.{◌≡◌, ℕ, ◌+◌, ◌-◌, ◌<◌, ◌≤◌, Bool, true, false, not, ◌||◌, eqb, List, [], length, take, replicate, get_or, refl, sym, ap, subst, ◌∙◌, inl, inr, arith, Some, None, slice_get}
use Rattle.std.specs.Prelude.{nat_lt, Option, Result, Ok, Err, IfOk, MatchOption}
use Rattle.std.proofs.Math.Path.{fun_ext}
use Rattle.std.proofs.Math.Seq.{take-append_seam}
use Rattle.std.specs.List.{range_with_len}
use Rattle.std.proofs.lemmas.Bool.{cases_Bool, cases_lt, cond-true, cond-false, false_from_ne_true, eqb-true, eq-eqb}
use Rattle.std.proofs.lemmas.List.{length-map, length-replicate}
use Rattle.std.proofs.lemmas.Option.{unwrap_or-slice_get, get_or_from_slice_get}
use Rattle.std.specs.Option.{unwrap_or}
use Rattle.flk_base.specs.Plan.{Plan, Machine, Return, ◌>>=◌, run}
use Rattle.flk_base.specs.PlanLaws.{run-bind}
use Rattle.flk_base.specs.Stop.{Limit, limited, Fused, with_fuse, end_of, then_fused}
use Rattle.flk_base.specs.StopLaws.{fused-bind}
use Rattle.region_pool.specs.declared.mark.Mark.{Mark}
use Rattle.region_pool.specs.Marks.{is_free}
use Rattle.region_pool.specs.Spans.{Span}
use Rattle.region_pool.specs.Places.{IsPlace, IsLowestPlace, HasNoPlace, place as pool_place}
use Rattle.region_pool.proofs.Frames.{slice_get-replicate}
use Rattle.region_pool.proofs.FrameSpans.{taken-not_free}
use Rattle.region_pool.proofs.PlaceLemmas.{place-cases}
use Rattle.region_pool.proofs.Search.{free-place, within-place}
use Rattle.machine_memory.specs.Writes.{written}
use Rattle.machine_memory.specs.Contents.{Contents, frame_count, frame_of}
use Rattle.machine_memory.specs.Areas.{region_frames}
use Rattle.machine_memory.specs.ArmedWrites.{Armed}
use Rattle.machine_memory.specs.DeviceWrites.{is_open, may_write}
use Rattle.machine_memory.specs.HostMemory.{HostMemory, is_taken}
use Rattle.machine_memory.proofs.Pieces.{Writes, writes-written}
use Rattle.slb_image.specs.Faults.{image_fault}
use Rattle.slb_image.specs.declared.fault.ImageFault.{ImageFault}
use Rattle.seal_device.specs.Commands.{Command, Reply, PowerOn, act}
use Rattle.seal_device.specs.Digests.{DigestDevice, digests, on_device}
use Rattle.expr_text.specs.Variables.{Table}
use Rattle.late_launch.specs.Boards.{BoardParts, DarkParts, fused_device, powered, first_memory}
use Rattle.late_launch.specs.Regions.{page}
use Rattle.late_launch.proofs.Sizes.{region_frames_are}
use Rattle.slb_core.specs.Pal.{Permits, PalEnd}
use Rattle.slb_core.specs.Reports.{count_of}
use Rattle.slb_core.specs.Services.{longest_outputs}
use Rattle.session_driver.specs.Sessions.{area_at, permits_in, setting_in, setting_with, session_plan}
use Rattle.session_driver.specs.Answers.{Course, IsRefused, RunsAt, Refusal, IsNoImage, HasLongInputs, HasNoPlace as NoArea, course, course_at, placed, ran_at, board_after, ended_answer, answer_of, ended_leaves, LeavesBeside, is_out_of_memory}
use Rattle.session_driver.specs.declared.driver.SessionEnd.{SessionEnd}
use Rattle.session_driver.specs.declared.driver.SessionEnd.TheVariants as ends
use Rattle.flk_run.specs.declared.answers.Refusal.TheVariants.{PowerLost}
use Rattle.job_store.specs.Simulated.{Simulated}
use Rattle.job_engine.specs.Commands.{AnyCommand, AnyReply, any_costs, any_act, cycled, to_device}
use Rattle.job_engine.specs.Whole.{on_both}
use Rattle.job_engine.proofs.Machines.{fused_to_device}
use Rattle.flk_run.specs.Answers.{Answer, Ended, Refused}
use Rattle.flk_run.specs.Platform.{Around, DigestPlatform, after_power_on}
use Rattle.flk_run.specs.Parts.{HoldsAll, IsHost, MemoryStands, host_memory, platform_with}
use Rattle.flk_run.specs.Events.{Outcome, is_permitted, permits_around, setting_around, course_around, session_over, after_session, session_task, settlement, with_stop, after_outcome, task_step}
use Rattle.flk_run.specs.Sessions.{answer_to_end, armed_after, table_after}
use Rattle.flk_run.specs.Tasks.{RunSession}
use Rattle.flk_run.proofs.MarkLemmas.{taken_mark, open_frame, all_same, place_agrees}
use Rattle.flk_run.proofs.StepLemmas.{host_same, all_powered}

-- ---- the frames that devices may write to in a session

-- lists with one element there are read alike
read_same : (xs ys : List Bool) (k : ℕ) → slice_get xs k ≡ slice_get ys k
    → get_or xs k true ≡ get_or ys k true
read_same xs ys k same =
    sym (unwrap_or-slice_get xs k true)
    ∙ ap (λ (found : Option Bool). unwrap_or found true) same
    ∙ unwrap_or-slice_get ys k true

neither : (a : Bool) → (a || false || false) ≡ a
neither true = refl
neither false = refl

second : (a b : Bool) → (a || true || b) ≡ true
second true b = refl
second false b = refl

third : (a b : Bool) → (a || b || true) ≡ true
third true b = refl
third false true = refl
third false false = refl

module _ (p : HostMemory) (m : Contents) (first : ℕ) (stands : MemoryStands p m)
    (free : IsPlace m.marks 18 16 first) where
  within : first + 18 ≤ frame_count
  within =
      let inside = within-place m.marks 18 16 first (omega arith) free in
      omega (arith, stands.marks.count)

  long : length m.excluded ≡ frame_count
  long = ap (λ (bits : List Bool). length bits) stands.excluded ∙ length-map m.marks is_free ∙ stands.marks.count

  abbrev open_area : List Bool
  open_area = written m.excluded first (replicate 18 false)

  abbrev shut_region : List Bool
  shut_region = written open_area first (replicate region_frames true)

  opened : Writes m.excluded open_area first (replicate 18 false)
  opened =
      let size = length-replicate {A = Bool} 18 false in
      let fits = within in
      let bits = long in
      writes-written m.excluded first (replicate 18 false) (omega arith)

  shut : Writes open_area shut_region first (replicate region_frames true)
  shut =
      let size = length-replicate {A = Bool} region_frames true in
      let frames = region_frames_are in
      let fits = within in
      let bits = long in
      let same = opened.long in
      writes-written open_area first (replicate region_frames true) (omega arith)

  -- outside of the area
  apart : (frame : ℕ) → slice_get shut_region frame ≡ slice_get m.excluded frame
      → eqb frame (first + 16) ≡ false → eqb frame (first + 17) ≡ false
      → not (get_or shut_region frame true) ≡ is_permitted p.spans first frame
  apart frame same not_input not_output =
      ap not (read_same shut_region m.excluded frame same)
      ∙ ap (λ (bits : List Bool). not (get_or bits frame true)) stands.excluded
      ∙ open_frame m.marks p.spans frame stands.marks
      ∙ rw (not_input, not_output) (sym (neither (is_taken p.spans frame)))

  not_that : (frame other : ℕ) → (frame ≡ other → ⊥) → eqb frame other ≡ false
  not_that frame other no' = false_from_ne_true _ (λ e. no' (eqb-true frame other e))

  -- in the region
  in_region : (frame : ℕ) → first ≤ frame → frame < first + 16
      → not (get_or shut_region frame true) ≡ is_permitted p.spans first frame
  in_region frame low high =
      let frames = region_frames_are in
      let size = length-replicate {A = Bool} region_frames true in
      let there = shut.inside (frame - first) frame (omega arith) (omega arith)
      ∙ slice_get-replicate region_frames true (frame - first) (omega arith) in
      let untaken : is_taken p.spans frame ≡ false =
      false_from_ne_true _ (λ e. taken-not_free m.marks frame
      (taken_mark m.marks p.spans frame stands.marks.held.held e)
      (free-place m.marks 18 16 first free frame low (omega arith))) in
      ap not (get_or_from_slice_get shut_region frame true true there)
      ∙ rw (untaken, not_that frame (first + 16) (λ e. omega (arith, e)), not_that frame (first + 17) (λ e. omega (arith, e))) refl

  -- in a page
  in_page : (frame : ℕ) → first + 16 ≤ frame → frame < first + 18 → get_or shut_region frame true ≡ false
  in_page frame low high =
      let frames = region_frames_are in
      let size = length-replicate {A = Bool} region_frames true in
      let area_size = length-replicate {A = Bool} 18 false in
      get_or_from_slice_get shut_region frame false true
      (shut.above frame (omega arith) ∙ opened.inside (frame - first) frame (omega arith) (omega arith)
      ∙ slice_get-replicate 18 false (frame - first) (omega arith))

  permitted : (frame : ℕ) → not (get_or shut_region frame true) ≡ is_permitted p.spans first frame
  permitted frame = elim (cases_lt frame first) [
    | inl below ↦ apart frame (shut.below frame below ∙ opened.below frame below)
        (not_that frame (first + 16) (λ e. omega (arith, e))) (not_that frame (first + 17) (λ e. omega (arith, e)))
    | inr from ↦ elim (cases_lt frame (first + 16)) [
      | inl inside ↦ in_region frame from inside
      | inr past ↦ elim (cases_lt frame (first + 17)) [
        | inl input ↦ ap not (in_page frame past (omega arith))
            ∙ rw (eq-eqb frame (first + 16) (omega arith)) (sym (second (is_taken p.spans frame) (eqb frame (first + 17))))
        | inr later ↦ elim (cases_lt frame (first + 18)) [
          | inl output ↦ ap not (in_page frame past (omega arith))
              ∙ rw (eq-eqb frame (first + 17) (omega arith)) (sym (third (is_taken p.spans frame) (eqb frame (first + 16))))
          | inr above ↦
              let frames = region_frames_are in
              let size = length-replicate {A = Bool} region_frames true in
              let area_size = length-replicate {A = Bool} 18 false in
              apart frame (shut.above frame (omega arith) ∙ opened.above frame (omega arith))
              (not_that frame (first + 16) (λ e. omega (arith, e))) (not_that frame (first + 17) (λ e. omega (arith, e)))
        ]
      ]
    ]
  ]

  -- the platform permits the device writes that memory does
  pub permits_agree : permits_around p.spans first ≡ permits_in m (area_at first)
  unfolding may_write
  permits_agree = fun_ext (λ at. fun_ext (λ count.
      sym (all_same (is_open shut_region) (λ byte. is_permitted p.spans first (frame_of byte))
      (λ byte. permitted (frame_of byte)) (range_with_len at count))))

-- ---- a task that may be stopped

-- a device by digests beside a disk, and what carries out commands to both
abbrev pub DigestMachine : Type 0
DigestMachine = DigestDevice × Simulated

abbrev pub machine : Machine AnyCommand AnyReply DigestMachine
machine = any_act (act digests)

-- the device and the disk of a platform, with its fuse
abbrev pub fused_machine : DigestPlatform → Fused DigestMachine
fused_machine p = with_fuse (p.device, p.disk) p.fuse

-- where a plan of the device ended, beside a disk
abbrev pub beside : {X : Type 0} → Simulated → Fused DigestDevice × X → Fused DigestMachine × X
beside disk end = (with_fuse (end.0.state, disk) end.0.fuse, end.1)

-- how a task that ended so with a fuse is settled
abbrev pub settled : Around → Fused DigestMachine × Option (Around × Answer) → DigestPlatform × Answer
settled w (left, Some done) =
    (record { device = left.state.0; disk = left.state.1; around = done.0; fuse = left.fuse }, done.1)
settled w (left, None) = (
  record {
    device = (act digests PowerOn left.state.0).0;
    disk = cycled 0 [] left.state.1;
    around = after_power_on w;
    fuse = None;
  },
  Refused PowerLost,
)

settled_so : (w : Around) (end : DigestMachine × (Limit × Option (Around × Answer)))
    → after_outcome (run machine (settlement w end.1) end.0) ≡ settled w (end_of end)
settled_so w (here, (left, Some done)) = refl
settled_so w (here, (left, None)) = refl

-- it is what the plan comes to
pub stop_settled : (w : Around) (plan : Plan AnyCommand AnyReply (Around × Answer)) (before : Fused DigestMachine)
    → after_outcome (run machine (with_stop w before.fuse plan) before.state) ≡ settled w (on_both plan before)
stop_settled w plan before =
    ap (λ (end : DigestMachine × Outcome). after_outcome end)
    (run-bind machine (limited any_costs plan before.fuse) (settlement w) before.state)
    ∙ settled_so w (run machine (limited any_costs plan before.fuse) before.state)

-- a plan of the device, and then what its value comes to
device_then : {Y : Type 0} (plan : Plan Command Reply Y) (next : Y → Around × Answer) (w : Around) (disk : Simulated)
    (before : Fused DigestDevice)
    → after_outcome (run machine (with_stop w before.fuse (to_device plan >>= λ y. Return (next y))) (before.state, disk))
    ≡ settled w (then_fused any_costs machine (λ y. Return (next y)) (beside disk (on_device plan before)))
device_then plan next w disk before =
    stop_settled w (to_device plan >>= λ y. Return (next y)) (with_fuse (before.state, disk) before.fuse)
    ∙ ap (settled w) (fused-bind any_costs machine (to_device plan) (λ y. Return (next y))
    (with_fuse (before.state, disk) before.fuse))
    ∙ ap (λ end. settled w (then_fused any_costs machine (λ y. Return (next y)) end))
    (fused_to_device (act digests) plan before.state disk before.fuse)

-- ---- the session

-- the outputs are the first bytes of their page
outputs_shown : (count : ℕ) (outputs out : List ℕ) → count ≡ length outputs → out ≡ page outputs → take count out ≡ outputs
outputs_shown count outputs out counted is =
    ap (λ (k : ℕ). take k out) counted ∙ ap (λ (bytes : List ℕ). take (length outputs) bytes) is
    ∙ take-append_seam outputs _

module _ (board : BoardParts) (spans : List Span) (image inputs nonce : List ℕ) (armed : List Armed)
    (all : HoldsAll board.memory spans) (disk : Simulated) (variables : Table) where
  abbrev before : DigestPlatform
  before = platform_with armed board spans disk variables

  abbrev memory : HostMemory
  memory = host_memory board.memory spans

  abbrev w : Around
  w = before.around

  same_course : course_around memory image inputs ≡ course board.memory.marks image inputs
  same_course =
      ap (λ (place : Option ℕ). course_at place inputs (image_fault image))
      (place_agrees board.memory.marks memory.spans 18 16 all.stands.marks (omega arith))

  -- a session that ended so on the device
  abbrev ended_so : ℕ → Fused DigestDevice × Option PalEnd → DigestPlatform × Answer
  ended_so first (left, None) =
      (platform_with [] (powered (record { device = left.state; marks = board.memory.marks })) spans (cycled 0 [] disk) variables, Refused PowerLost)
  ended_so first (left, Some ended) =
      (platform_with [] (board_after board first left ended.outside.bytes) spans disk variables, Ended (session_over ended))

  settled_is : (first : ℕ) (ran : Fused DigestDevice × Option PalEnd)
      → settled w (then_fused any_costs machine (λ ended. Return (after_session first ended None w, Ended (session_over ended))) (beside disk ran))
      ≡ ended_so first ran
  settled_is first (left, None) = refl
  settled_is first (left, Some ended) = refl

  same_setting : (first : ℕ) → IsPlace board.memory.marks 18 16 first
      → setting_around memory first image inputs ≡ setting_in board.memory first image inputs
  same_setting first free =
      ap (λ (permits : Permits). setting_with permits board.memory.bytes first image inputs)
      (permits_agree memory board.memory first all.stands free)

  ran_step : (first : ℕ) → IsPlace board.memory.marks 18 16 first
      → after_outcome (run machine (with_stop w board.fuse (session_task (RunsAt first) image inputs nonce None w)) (board.device, disk))
      ≡ ended_so first (ran_at board first image inputs nonce armed)
  ran_step first free =
      device_then (session_plan (setting_around memory first image inputs) image inputs nonce armed)
      (λ ended. (after_session first ended None w, Ended (session_over ended))) w disk (fused_device board)
      ∙ settled_is first (on_device (session_plan (setting_around memory first image inputs) image inputs nonce armed) (fused_device board))
      ∙ ap (λ setting. ended_so first (on_device (session_plan setting image inputs nonce armed) (fused_device board))) (same_setting first free)

  -- the platform and the answer, by what the driver answered and left
  abbrev pub stepped : Result (BoardParts × SessionEnd) DarkParts → List Armed → List ℕ → DigestPlatform × Answer
  stepped (Ok (after, end)) left out =
      (platform_with (armed_after end left) after spans disk variables, answer_to_end end left out)
  stepped (Err dark) left out = (platform_with [] (powered dark) spans (cycled 0 [] disk) variables, Refused PowerLost)

  -- what the task does, by its course
  abbrev by_course : Course → DigestPlatform × Answer
  by_course course =
      after_outcome (run machine (with_stop w board.fuse (session_task course image inputs nonce None w)) (board.device, disk))

  abbrev IsStep : Course → Type 0
  IsStep course =
      (left : List Armed) (out : List ℕ) → LeavesBeside board image inputs nonce armed course left out
      → stepped (answer_of board image inputs nonce armed course) left out ≡ by_course course

  refused : (why : Refusal) → IsStep (IsRefused why)
  refused (IsNoImage fault) left out leaves = rw leaves.armed refl
  refused HasLongInputs left out leaves = rw leaves.armed refl
  refused NoArea left out leaves = rw leaves.armed refl

  ended_step : (first : ℕ) (ran : Fused DigestDevice × Option PalEnd) (left : List Armed) (out : List ℕ)
      → ended_leaves ran left out → stepped (ended_answer board first ran) left out ≡ ended_so first ran
  ended_step first (device, None) left out leaves = refl
  ended_step first (device, Some ended) left out leaves =
      rw (outputs_shown (count_of ended.end) ended.outputs out leaves.count leaves.outputs, leaves.armed) refl

  runs_step : (first : ℕ) → IsPlace board.memory.marks 18 16 first → IsStep (RunsAt first)
  runs_step first free left out leaves =
      ended_step first (ran_at board first image inputs nonce armed) left out leaves ∙ sym (ran_step first free)

  at_place : (found : Option ℕ)
      → MatchOption found (HasNoPlace board.memory.marks 18 16) (IsLowestPlace board.memory.marks 18 16) → IsStep (placed found)
  at_place None none = refused NoArea
  at_place (Some first) lowest = runs_step first lowest.place

  course_step : (found : Option ℕ) (fault : Option ImageFault)
      → MatchOption found (HasNoPlace board.memory.marks 18 16) (IsLowestPlace board.memory.marks 18 16) → IsStep (course_at found inputs fault)
  course_step found (Some fault) is = refused (IsNoImage fault)
  course_step found None is = elim (cases_Bool (nat_lt longest_outputs (length inputs))) [
    | inl large ↦ subst IsStep (sym (cond-true (nat_lt longest_outputs (length inputs)) (IsRefused HasLongInputs) (placed found) large)) (refused HasLongInputs)
    | inr few ↦ subst IsStep (sym (cond-false (nat_lt longest_outputs (length inputs)) (IsRefused HasLongInputs) (placed found) few)) (at_place found is)
  ]

  -- a session of the driver is a step of the platform
  pub session_steps : (result : Result (BoardParts × SessionEnd) DarkParts) (left : List Armed) (out : List ℕ)
      → result ≡ answer_of board image inputs nonce armed (course board.memory.marks image inputs)
      → LeavesBeside board image inputs nonce armed (course board.memory.marks image inputs) left out
      → stepped result left out ≡ task_step digests (RunSession image inputs nonce None) before
  session_steps result left out is leaves =
      ap (λ (r : Result (BoardParts × SessionEnd) DarkParts). stepped r left out) is
      ∙ course_step (pool_place board.memory.marks 18 16) (image_fault image) (place-cases board.memory.marks 18 16 (omega arith)) left out leaves
      ∙ ap by_course (sym same_course)

-- ---- where memory ran out

-- it did not, where the session ended in another way
pub has_memory : (board : BoardParts) (end : SessionEnd) → (end ≡ ends.NoMemory → ⊥)
    → is_out_of_memory (Ok (board, end)) ≡ false
has_memory board ends.NoMemory other = absurd (other refl)
has_memory board ends.NoPlace other = refl
has_memory board (ends.BadImage fault) other = refl
has_memory board ends.LongInput other = refl
has_memory board (ends.Ended end turns) other = refl

-- what follows from an answer follows where there is one
pub where_answered : {T E : Type 0} (r : Result T E) (Fact : T → Type 0) → ((answer : T) → r ≡ Ok answer → Fact answer)
    → IfOk r Fact
where_answered (Ok answer) Fact each = each answer refl
where_answered (Err error) Fact each = tt

-- and what holds where there is an answer holds of the one that there is
pub of_answer : {T E : Type 0} (r : Result T E) (answer : T) (Fact : T → Type 0) → r ≡ Ok answer → IfOk r Fact
    → Fact answer
of_answer {T} {E} r answer Fact is fact = subst (λ (r : Result T E). IfOk r Fact) is fact

-- ---- what it keeps

-- of memory the bytes alone may be others
abbrev pub KeepsSpans : BoardParts → Result (BoardParts × SessionEnd) DarkParts → Type 0
KeepsSpans board (Ok (after, end)) = after.memory ≡ record board.memory { bytes = after.memory.bytes }
KeepsSpans board (Err dark) = dark.marks ≡ board.memory.marks

ended_keeps : (board : BoardParts) (first : ℕ) (ran : Fused DigestDevice × Option PalEnd) → KeepsSpans board (ended_answer board first ran)
ended_keeps board first (left, None) = refl
ended_keeps board first (left, Some ended) = refl

pub answer_keeps : (board : BoardParts) (image inputs nonce : List ℕ) (armed : List Armed) (course : Course)
    → KeepsSpans board (answer_of board image inputs nonce armed course)
answer_keeps board image inputs nonce armed (IsRefused why) = refl
answer_keeps board image inputs nonce armed (RunsAt first) = ended_keeps board first (ran_at board first image inputs nonce armed)

-- so the host holds what it held
pub host_after : (untaken : Bool) (board after : BoardParts) (end : SessionEnd) (spans : List Span)
    → IsHost untaken board.memory spans → KeepsSpans board (Ok (after, end)) → IsHost untaken after.memory spans
host_after untaken board after end spans host keeps =
    subst (λ (m : Contents). IsHost untaken m spans) (sym keeps)
    (host_same untaken board.memory (record board.memory { bytes = after.memory.bytes }) spans host refl
    (λ all. record {
      stands = record { bytes = refl; marks = all.stands.marks; excluded = all.stands.excluded };
      serve = all.serve;
    }))

pub host_powered : (untaken : Bool) (board : BoardParts) (dark : DarkParts) (spans : List Span)
    → IsHost untaken board.memory spans → KeepsSpans board (Err dark) → IsHost untaken (powered dark).memory spans
host_powered untaken board dark spans host keeps =
    subst (λ (marks : List Mark). IsHost untaken (first_memory marks) spans) (sym keeps)
    (host_same untaken board.memory (first_memory board.memory.marks) spans host refl (all_powered board.memory spans))

-- ---- the name that a session binds

-- a step that bound a name too, where it answers outputs
abbrev pub bound_too : Option (List ℕ) → DigestPlatform × Answer → DigestPlatform × Answer
bound_too None end = end
bound_too (Some name) end = (
  record end.0 { around = record end.0.around { variables = table_after name end.1 end.0.around.variables } },
  end.1,
)

module _ (p : DigestPlatform) (image inputs nonce : List ℕ) where
  abbrev step_by : Course → Option (List ℕ) → DigestPlatform × Answer
  step_by course var =
      after_outcome (run machine (with_stop p.around p.fuse (session_task course image inputs nonce var p.around)) (p.device, p.disk))

  abbrev plan_at : ℕ → Plan Command Reply PalEnd
  plan_at first = session_plan (setting_around p.around.memory first image inputs) image inputs nonce p.around.armed

  abbrev settled_with : ℕ → Option (List ℕ) → Fused DigestDevice × Option PalEnd → DigestPlatform × Answer
  settled_with first var ran =
      settled p.around (then_fused any_costs machine (λ ended. Return (after_session first ended var p.around, Ended (session_over ended))) (beside p.disk ran))

  step_at : (first : ℕ) (var : Option (List ℕ))
      → step_by (RunsAt first) var ≡ settled_with first var (on_device (plan_at first) (with_fuse p.device p.fuse))
  step_at first var =
      device_then (plan_at first) (λ ended. (after_session first ended var p.around, Ended (session_over ended)))
      p.around p.disk (with_fuse p.device p.fuse)

  binds_then : (first : ℕ) (var : Option (List ℕ)) (ran : Fused DigestDevice × Option PalEnd)
      → settled_with first var ran ≡ bound_too var (settled_with first None ran)
  binds_then first None ran = refl
  binds_then first (Some name) (left, None) = refl
  binds_then first (Some name) (left, Some ended) = refl

  course_binds : (course : Course) (var : Option (List ℕ)) → step_by course var ≡ bound_too var (step_by course None)
  course_binds (IsRefused why) None = refl
  course_binds (IsRefused why) (Some name) = refl
  course_binds (RunsAt first) var =
      step_at first var ∙ binds_then first var (on_device (plan_at first) (with_fuse p.device p.fuse))
      ∙ ap (bound_too var) (sym (step_at first None))

  pub session_binds : (var : Option (List ℕ))
      → task_step digests (RunSession image inputs nonce var) p ≡ bound_too var (task_step digests (RunSession image inputs nonce None) p)
  session_binds var = course_binds (course_around p.around.memory image inputs) var
