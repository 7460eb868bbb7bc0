-- What an event answers, and what there is after it: a plan over commands to the device and to the disk.
use Rattle.std.specs.List.{list_all, range_with_len}
use Rattle.std.specs.Prelude.{ℕ, ◌+◌, ◌==◌, ◌||◌, count_by, Bool, List, [], ◌∷◌, ◌++◌, length, find, codes, Option, Some, None, Result, Ok, Err, if◌then◌else◌}
use Rattle.flk_base.specs.Plan.{Plan, Return, ask, ◌>>=◌, run}
use Rattle.flk_base.specs.Stop.{Limit, limited}
use Rattle.tpm_state.specs.Chain.{Chain}
use Rattle.tpm_state.specs.Sessions.{Session, session_chain}
use Rattle.seal_device.specs.Quoted.{Quoted}
use Rattle.seal_device.specs.Rules.{Device, Rules}
use Rattle.seal_device.specs.Commands as command
use Rattle.seal_device.specs.Commands.{Command, Reply, act}
use Rattle.seal_device.specs.Refusals.Register as registers
use Rattle.seal_device.specs.Refusals.Seed as seeds
use Rattle.seal_device.specs.Refusals.Unseal as unseals
use Rattle.seal_device.specs.Refusals.Quote as quotes
use Rattle.seal_device.specs.Refusals.Random as randoms
use Rattle.tpm_state.specs.Refusals.ReadCounter as reads
use Rattle.script_text.specs.Grammar.{Request}
use Rattle.slb_image.specs.Faults.{image_fault}
use Rattle.machine_memory.specs.Contents.{first_byte, frame_of}
use Rattle.machine_memory.specs.ArmedWrites.{is_waiting, is_done, is_blocked}
use Rattle.machine_memory.specs.Writes.{part}
use Rattle.slb_core.specs.Pal.{Permits, PalEnd}
use Rattle.slb_core.specs.Sessions.{Setting}
use Rattle.session_driver.specs.Sessions.{area_frames, area_alignment, setting_with, session_plan, wiped}
use Rattle.session_driver.specs.Answers as session
use Rattle.session_driver.specs.Answers.{Course, IsRefused, RunsAt, course_at}
use Rattle.flk_run.specs.declared.answers.Refusal.{Refusal}
use Rattle.flk_run.specs.declared.answers.Refusal.TheVariants.{NoRegister, NoImage, NoRoom, NoSpan, NoTaken, NoBlocked, NoInput, NoPlace, NoSeeded, NoSeed, NoBlob, NoChain, NoCounter, NoEnd, NoDisk, PowerLost}
use Rattle.job_store.specs.Simulated.{Simulated}
use Rattle.job_store.specs.declared.disk.DiskFailed.{DiskFailed}
use Rattle.job_store.specs.Commands as slots
use Rattle.job_engine.specs.Commands.{AnyCommand, ToDevice, ToSlots, CyclePower, AnyReply, any_costs, any_act, to_device}
use Rattle.flk_run.specs.Answers.{SessionOver, Answer, Quiet, Done, Counts, Shows, Registers, Ended, Says, Refused, line_of}
use Rattle.machine_memory.specs.HostMemory.{HostMemory, HostSpan, is_taken, place, starts_at, are_taken, are_open, with_span, without_span, with_bytes}
use Rattle.flk_run.specs.Platform.{Around, Platform, with_name, with_name_if, with_register, with_armed, with_memory, after_power_on}
use Rattle.flk_run.specs.Tasks.{Task, Rest, Refuse, Extend, Read, Bind, Show, BindImage, Take, Give, Poke, Peek, Dma, SetRegister, ShowRegisters, Arm, RunSession, Seed, Unseal, ReadCounter, Draw, Quote, Check, ReadSlot, Overwrite, task_of}

-- ---- what memory is after an event, and the answer

-- a span taken from its first frame on, where there is a place for it
abbrev pub taken_at : Option ℕ → ℕ → HostMemory → HostMemory × Answer
taken_at None frames m = (m, Refused NoRoom)
taken_at (Some first) frames m = (with_span first frames m, Counts (first_byte first))

-- so many frames taken; of none there is no span
abbrev pub span_taken : ℕ → HostMemory → HostMemory × Answer
span_taken frames m =
    if frames == 0 then (m, Refused NoRoom) else taken_at (place m.spans frames 1) frames m

-- a span given back, where there is one
abbrev pub given_back : Option HostSpan → HostMemory → HostMemory × Answer
given_back None m = (m, Refused NoSpan)
given_back (Some span) m = (without_span span m, Done)

-- the span that starts at the address given back
abbrev pub span_given : ℕ → HostMemory → HostMemory × Answer
span_given at m = given_back (find (starts_at at) m.spans) m

-- bytes written from the address on, where they may be
abbrev pub written_if : Bool → Refusal → ℕ → List ℕ → HostMemory → HostMemory × Answer
written_if may why at bytes m = if may then (with_bytes at bytes m, Done) else (m, Refused why)

-- bytes of one span written by the host
abbrev pub written_by_host : ℕ → List ℕ → HostMemory → HostMemory × Answer
written_by_host at bytes m = written_if (are_taken m.spans at (length bytes)) NoTaken at bytes m

-- so many bytes of one span shown
abbrev pub bytes_shown : ℕ → ℕ → HostMemory → HostMemory × Answer
bytes_shown at count m =
    (m, if are_taken m.spans at count then Shows (part m.bytes at count) else Refused NoTaken)

-- bytes written by a device
abbrev pub written_by_device : ℕ → List ℕ → HostMemory → HostMemory × Answer
written_by_device at bytes m = written_if (are_open m.spans at (length bytes)) NoBlocked at bytes m

-- ---- sessions

-- a device may write to the frame in a session: it lies in a span of the host, or is the input or
-- the output page
abbrev pub is_permitted : List HostSpan → ℕ → ℕ → Bool
is_permitted spans first frame = is_taken spans frame || frame == first + 16 || frame == first + 17

-- the device writes that a session in the area at a frame permits: those of whose bytes each lies in
-- such a frame
abbrev pub permits_around : List HostSpan → ℕ → Permits
permits_around spans first at count =
    list_all (λ byte. is_permitted spans first (frame_of byte)) (range_with_len at count)

-- what a session of an image begins with, in the area at a frame
abbrev pub setting_around : HostMemory → ℕ → List ℕ → List ℕ → Setting
setting_around m first image inputs =
    setting_with (permits_around m.spans first) m.bytes first image inputs

-- what it comes to: the area has the lowest place
abbrev pub course_around : HostMemory → List ℕ → List ℕ → Course
course_around m image inputs =
    course_at (place m.spans area_frames area_alignment) inputs (image_fault image)

-- what is answered where it is refused
abbrev pub session_refusal : session.Refusal → Refusal
session_refusal (session.IsNoImage fault) = NoImage fault
session_refusal session.HasLongInputs = NoInput
session_refusal session.HasNoPlace = NoPlace

-- what is answered where it ended
abbrev pub session_over : PalEnd → SessionOver
session_over ended = record {
  end = ended.end;
  turns = ended.turns;
  writes_done = count_by (λ write. is_done write.ended) ended.outside.writes;
  writes_blocked = count_by (λ write. is_blocked write.ended) ended.outside.writes;
  writes_left = count_by (λ write. is_waiting write.ended) ended.outside.writes;
  outputs = ended.outputs;
}

-- what is around then: the area is zero again, no write is armed, and the name is bound
abbrev pub after_session : ℕ → PalEnd → Option (List ℕ) → Around → Around
after_session first ended var w =
    with_name_if var ended.outputs
    (record w { memory = record w.memory { bytes = wiped first ended.outside.bytes }; armed = [] })

-- the session's plan
abbrev pub session_task : Course → List ℕ → List ℕ → List ℕ → Option (List ℕ) → Around
    → Plan AnyCommand AnyReply (Around × Answer)
session_task (IsRefused why) image inputs nonce var w = Return (w, Refused (session_refusal why))
session_task (RunsAt first) image inputs nonce var w =
    to_device (session_plan (setting_around w.memory first image inputs) image inputs nonce w.armed)
    >>= λ ended. Return (after_session first ended var w, Ended (session_over ended))

-- ---- the plan of a task

-- the text of a host's extend begins so
abbrev pub host_prefix : List ℕ
host_prefix = codes "host"

-- what is answered to an extend, and to a read
abbrev pub extend_answer : Result (Unit {0}) registers.Refusal → Answer
extend_answer (Ok done) = Done
extend_answer (Err registers.NoRegister) = Refused NoRegister

abbrev pub read_answer : Result (List ℕ) registers.Refusal → Answer
read_answer (Ok value) = Shows value
read_answer (Err registers.NoRegister) = Refused NoRegister

-- what is answered to a seed
abbrev pub seed_answer : Result (Unit {0}) seeds.Refusal → Answer
seed_answer (Ok done) = Done
seed_answer (Err seeds.Provisioned) = Refused NoSeeded

-- what is answered where a blob is not unsealed
abbrev pub unseal_refusal : unseals.Refusal → Refusal
unseal_refusal unseals.Unprovisioned = NoSeed
unseal_refusal unseals.NotBlob = NoBlob
unseal_refusal unseals.WrongChain = NoChain
unseal_refusal unseals.WrongCounter = NoCounter

-- what was unsealed is shown, and the name is bound to it, where there is one
abbrev pub after_unseal : Option (List ℕ) → Result (List ℕ) unseals.Refusal → Around → Around × Answer
after_unseal var (Ok bytes) w = (with_name_if var bytes w, Shows bytes)
after_unseal var (Err refusal) w = (w, Refused (unseal_refusal refusal))

-- what is answered to the reading of a counter
abbrev pub counter_answer : Result ℕ reads.Refusal → Answer
counter_answer (Ok value) = Counts value
counter_answer (Err reads.NoCounter) = Refused NoCounter

-- what is answered where no random word is drawn
abbrev pub random_refusal : randoms.Refusal → Refusal
random_refusal randoms.Unprovisioned = NoSeed
random_refusal randoms.RandomEnd = NoEnd

-- a random word is shown, and the name is bound to it, where there is one
abbrev pub after_draw : Option (List ℕ) → Result (List ℕ) randoms.Refusal → Around → Around × Answer
after_draw var (Ok word) w = (with_name_if var word w, Shows word)
after_draw var (Err refusal) w = (w, Refused (random_refusal refusal))

-- a quote is shown, and the name is bound to it, where there is one
abbrev pub after_quote : Option (List ℕ) → Result (List ℕ) quotes.Refusal → Around → Around × Answer
after_quote var (Ok bytes) w = (with_name_if var bytes w, Shows bytes)
after_quote var (Err quotes.Unprovisioned) w = (w, Refused NoSeed)

-- what a quote is claimed to be that is checked for a session: of the chain that the session leaves, for
-- its nonce
abbrev pub claim_of : Session → Quoted Chain
claim_of session = record { chain = session_chain session; nonce = session.nonce }

-- what is answered to a check
abbrev pub check_answer : Result Bool quotes.Refusal → Answer
check_answer (Ok told) = Says told
check_answer (Err quotes.Unprovisioned) = Refused NoSeed

-- the blob of a slot is shown, and the name is bound to it, where there is one
abbrev pub after_read_slot : Option (List ℕ) → Result (Option (List ℕ)) DiskFailed → Around → Around × Answer
after_read_slot var (Ok (Some blob)) w = (with_name_if var blob w, Shows blob)
after_read_slot var (Ok None) w = (w, Refused NoBlob)
after_read_slot var (Err failed) w = (w, Refused NoDisk)

-- a blob is written into a slot, and the disk is synced once that is done
abbrev pub sync_if : Result (Unit {0}) DiskFailed → Plan AnyCommand AnyReply (Result (Unit {0}) DiskFailed)
sync_if (Ok written) = ask (ToSlots slots.SyncSlots)
sync_if (Err failed) = Return (Err failed)

abbrev pub overwrites : ℕ → ℕ → List ℕ → Plan AnyCommand AnyReply (Result (Unit {0}) DiskFailed)
overwrites j s blob = ask (ToSlots (slots.WriteSlot j s blob)) >>= sync_if

-- what is answered to it
abbrev pub overwrite_answer : Result (Unit {0}) DiskFailed → Answer
overwrite_answer (Ok done) = Done
overwrite_answer (Err failed) = Refused NoDisk

-- one command to the device, and the answer to its reply; what is around stays
abbrev pub answering : (c : Command) → (Reply c → Answer) → Around
    → Plan AnyCommand AnyReply (Around × Answer)
answering c answer_of w = ask (ToDevice c) >>= λ reply. Return (w, answer_of reply)

-- memory as an event leaves it, and its answer
abbrev pub in_memory : HostMemory × Answer → Around → Plan AnyCommand AnyReply (Around × Answer)
in_memory end w = Return (with_memory end.0 w, end.1)

-- a task: what it leaves around the device, and its answer
abbrev pub plan_of : Task → Around → Plan AnyCommand AnyReply (Around × Answer)
plan_of Rest w = Return (w, Quiet)
plan_of (Refuse why) w = Return (w, Refused why)
plan_of (Extend r text) w = answering (command.Extend r (host_prefix ++ text)) extend_answer w
plan_of (Read r) w = answering (command.ReadRegister r) read_answer w
plan_of (Bind name value) w = Return (with_name name value w, Done)
plan_of (Show bytes) w = Return (w, Shows bytes)
plan_of (BindImage name image) w = Return (with_name name image w, Counts (length image))
plan_of (Take frames) w = in_memory (span_taken frames w.memory) w
plan_of (Give at) w = in_memory (span_given at w.memory) w
plan_of (Poke at bytes) w = in_memory (written_by_host at bytes w.memory) w
plan_of (Peek at count) w = in_memory (bytes_shown at count w.memory) w
plan_of (Dma at bytes) w = in_memory (written_by_device at bytes w.memory) w
plan_of (SetRegister reg n) w = Return (with_register reg n w, Done)
plan_of ShowRegisters w = Return (w, Registers w.registers.regs)
plan_of (Arm turn at bytes) w = Return (with_armed turn at bytes w, Done)
plan_of (RunSession image inputs nonce var) w =
    session_task (course_around w.memory image inputs) image inputs nonce var w
plan_of (Seed seed) w = answering (command.Provision seed) seed_answer w
plan_of (Unseal blob var) w = ask (ToDevice (command.Unseal blob)) >>= λ reply. Return (after_unseal var reply w)
plan_of (ReadCounter id) w = answering (command.ReadCounter id) counter_answer w
plan_of (Draw var) w = ask (ToDevice command.Random) >>= λ reply. Return (after_draw var reply w)
plan_of (Quote nonce var) w = ask (ToDevice (command.Quote nonce)) >>= λ reply. Return (after_quote var reply w)
plan_of (Check session quote) w =
    answering (command.Check (claim_of session) quote) check_answer w
plan_of (ReadSlot j s var) w =
    ask (ToSlots (slots.ReadSlot j s)) >>= λ reply. Return (after_read_slot var reply w)
plan_of (Overwrite j s blob) w = overwrites j s blob >>= λ done. Return (w, overwrite_answer done)

-- ---- events

-- what an event leaves beside the device and the disk, and its answer
pub record Outcome : Type 0 where
  pub around : Around
  pub fuse : Limit
  pub answer : Answer

-- how a plan with a fuse is settled: by its value, or, where the power was lost, by its coming back,
-- after which the disk keeps nothing that was not synced
abbrev pub settlement : Around → Limit × Option (Around × Answer) → Plan AnyCommand AnyReply Outcome
settlement w (left, Some end) = Return (record { around = end.0; fuse = left; answer = end.1 })
settlement w (left, None) =
    ask (CyclePower 0 []) >>= λ done.
    Return (record { around = after_power_on w; fuse = None; answer = Refused PowerLost })

-- a plan that the fuse may stop, settled
abbrev pub with_stop : Around → Limit → Plan AnyCommand AnyReply (Around × Answer)
    → Plan AnyCommand AnyReply Outcome
with_stop w fuse plan = limited any_costs plan fuse >>= settlement w

-- an event: its expressions first, then its task
abbrev pub event : Around → Limit → Request → Plan AnyCommand AnyReply Outcome
event w fuse request = with_stop w fuse (plan_of (task_of request w.variables) w)

-- the platform after an outcome, and the answer
abbrev pub after_outcome : {H M : Type 0} → (Device H M × Simulated) × Outcome → Platform H M × Answer
after_outcome end =
    (record { device = end.0.0; disk = end.0.1; around = end.1.around; fuse = end.1.fuse }, end.1.answer)

-- a plan on the device and the disk of a platform
abbrev pub run_on : {H M X : Type 0} → Rules H M → Plan AnyCommand AnyReply X → Platform H M
    → (Device H M × Simulated) × X
run_on R plan p = run (any_act (act R)) plan (p.device, p.disk)

-- a task on a platform
abbrev pub task_step : {H M : Type 0} → Rules H M → Task → Platform H M → Platform H M × Answer
task_step R task p =
    after_outcome (run_on R (with_stop p.around p.fuse (plan_of task p.around)) p)

-- an event on a platform
abbrev pub step : {H M : Type 0} → Rules H M → Request → Platform H M → Platform H M × Answer
step R request p = after_outcome (run_on R (event p.around p.fuse request) p)

-- the platform after an event
abbrev pub after : {H M : Type 0} → Rules H M → Request → Platform H M → Platform H M
after R request p = (step R request p).0

-- line n of the transcript, for an event
abbrev pub transcript_line : {H M : Type 0} → Rules H M → ℕ → Request → Platform H M → List ℕ
transcript_line R n request p = line_of n (step R request p).1

-- what events write, the first of them at line n
abbrev pub transcript : {H M : Type 0} → Rules H M → ℕ → List Request → Platform H M → List ℕ
transcript R n [] p = []
transcript R n (request ∷ requests) p =
    transcript_line R n request p ++ transcript R (n + 1) requests (after R request p)

-- the platform after events
abbrev pub after_all : {H M : Type 0} → Rules H M → List Request → Platform H M → Platform H M
after_all R [] p = p
after_all R (request ∷ requests) p = after_all R requests (after R request p)

-- ---- a script as one plan

-- what a script leaves beside the device and the disk, and its answers
pub record Outcomes : Type 0 where
  pub around : Around
  pub fuse : Limit
  pub answers : List Answer

-- outcomes with one answer more before theirs
abbrev pub answered_first : Answer → Outcomes → Outcomes
answered_first answer end = record end { answers = answer ∷ end.answers }

-- a script: each event, and then the rest from where it left what is around
abbrev pub script : Around → Limit → List Request → Plan AnyCommand AnyReply Outcomes
script w fuse [] = Return (record { around = w; fuse = fuse; answers = [] })
script w fuse (request ∷ requests) =
    event w fuse request >>= λ end.
    script end.around end.fuse requests >>= λ rest. Return (answered_first end.answer rest)

-- the lines of answers, the first of them at line n
abbrev pub lines_of : ℕ → List Answer → List ℕ
lines_of n [] = []
lines_of n (answer ∷ answers) = line_of n answer ++ lines_of (n + 1) answers

-- the platform that a script leaves
abbrev pub after_outcomes : {H M : Type 0} → (Device H M × Simulated) × Outcomes → Platform H M
after_outcomes end =
    record { device = end.0.0; disk = end.0.1; around = end.1.around; fuse = end.1.fuse }
