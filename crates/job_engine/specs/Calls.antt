-- What is done for a job, in parts: whole sessions of its image, and commands to its slots.
use Rattle.std.specs.Prelude.{ℕ, ◌+◌, ◌-◌, List, [], length, drop, slice_get, Option, Some, None, Result, Ok, Err, if◌then◌else◌}
use Rattle.byteorder.specs.Endian.{big_number}
use Rattle.flk_base.specs.Plan.{Plan, Return, ask, ◌>>=◌}
use Rattle.machine_memory.specs.Writes.{part}
use Rattle.late_launch.specs.declared.ends.End.{End}
use Rattle.late_launch.specs.declared.ends.End.TheVariants.{Done, Refused}
use Rattle.late_launch.specs.declared.ends.JobRefusal.TheVariants as refusals
use Rattle.late_launch.specs.Ends.{end_byte}
use Rattle.slb_core.specs.Pal.{PalEnd}
use Rattle.slb_core.specs.declared.job_inputs.Mode.{Mode}
use Rattle.slb_core.specs.declared.job_inputs.Mode.TheVariants.{New, Step, Commit, Probe}
use Rattle.slb_core.specs.JobInputs.{job_inputs}
use Rattle.job_store.specs.declared.disk.DiskFailed.{DiskFailed}
use Rattle.job_engine.specs.declared.ends.JobEnd.{JobEnd}
use Rattle.job_engine.specs.declared.ends.JobEnd.TheVariants as ends
use Rattle.job_store.specs.Commands.{SlotCommand, ReadSlot, WriteSlot, SyncSlots, SlotReply}
use Rattle.job_engine.specs.Jobs.{Job, place_of, are_long, new_refusal}

-- ---- parts

-- a part of a call: to make room in the list of jobs, a session of the job's image on these inputs, or a command to its
-- slots
pub data Part : Type 0 where
  MakeRoom : Part
  RunSession : (inputs : List ℕ) → Part
  OnSlots : SlotCommand → Part

-- why a session of a job's image is not begun
pub data Unbegun : Type 0 where
  HasLongInputs : Unbegun
  HasNoPlace : Unbegun

-- what a part gives
abbrev pub Gives : Part → Type 0
Gives MakeRoom = Unit {0}
Gives (RunSession inputs) = Result PalEnd Unbegun
Gives (OnSlots c) = SlotReply c

-- what comes to a value, or ends the call
abbrev pub Does : Type 0 → Type 0
Does X = Plan Part Gives (Result X JobEnd)

-- it comes to this value
abbrev pub gives : {X : Type 0} → X → Does X
gives x = Return (Ok x)

-- the call ends so
abbrev pub ends_so : {X : Type 0} → JobEnd → Does X
ends_so end = Return (Err end)

abbrev pub rest_of : {X Y : Type 0} → (X → Does Y) → Result X JobEnd → Does Y
rest_of rest (Ok x) = rest x
rest_of rest (Err end) = ends_so end

-- a part, and what is told of what it gave
abbrev pub asks : {X : Type 0} → (part : Part) → (Gives part → Result X JobEnd) → Does X
asks part told = ask part >>= λ given. Return (told given)

-- the first, and then the rest by its value, unless the call has ended
abbrev pub and_then : {X Y : Type 0} → Does X → (X → Does Y) → Does Y
and_then first rest = first >>= rest_of rest

-- ---- slots

-- what the disk replied; the call ends where it failed
abbrev pub disk_told : {X : Type 0} → Result X DiskFailed → Result X JobEnd
disk_told (Ok x) = Ok x
disk_told (Err failed) = Err ends.DiskFault

-- the blob of a slot, if it holds one
abbrev pub reads : ℕ → ℕ → Does (Option (List ℕ))
reads j s = asks (OnSlots (ReadSlot j s)) disk_told

-- a blob is written to a slot, and the disk synced
abbrev pub writes : ℕ → ℕ → List ℕ → Does (Unit {0})
writes j s blob = asks (OnSlots (WriteSlot j s blob)) disk_told

abbrev pub syncs : Does (Unit {0})
syncs = asks (OnSlots SyncSlots) disk_told

abbrev pub keeps : ℕ → ℕ → List ℕ → Does (Unit {0})
keeps j s blob = and_then (writes j s blob) (λ written. syncs)

-- ---- sessions

-- a session in a mode, on a blob and inputs of the job's code
abbrev pub in_mode : Mode → List ℕ → List ℕ → Part
in_mode mode blob own = RunSession (job_inputs (record { mode = mode; blob = blob; own = own }))

-- how a call ends whose session is not begun
abbrev pub unbegun_end : Unbegun → JobEnd
unbegun_end HasLongInputs = ends.LongInput
unbegun_end HasNoPlace = ends.NoPlace

-- the outputs of a session that is done; else the call ends by the byte of its end
abbrev pub outputs_by : End → List ℕ → Result (List ℕ) JobEnd
outputs_by (Done n) outputs = Ok outputs
outputs_by other outputs = Err (ends.Ended (end_byte other))

abbrev pub outputs_told : Result PalEnd Unbegun → Result (List ℕ) JobEnd
outputs_told (Ok ended) = outputs_by ended.end ended.outputs
outputs_told (Err why) = Err (unbegun_end why)

-- the same of a birth, for which a counter may be wanting
abbrev pub birth_by : End → List ℕ → Result (List ℕ) JobEnd
birth_by (Refused refusals.NoCounterLeft) outputs = Err ends.NoCounterLeft
birth_by other outputs = outputs_by other outputs

abbrev pub birth_told : Result PalEnd Unbegun → Result (List ℕ) JobEnd
birth_told (Ok ended) = birth_by ended.end ended.outputs
birth_told (Err why) = Err (unbegun_end why)

-- what is told of the outputs of a session in this mode
abbrev pub told_in : Mode → Result PalEnd Unbegun → Result (List ℕ) JobEnd
told_in New reply = birth_told reply
told_in other reply = outputs_told reply

-- the outputs of a session in a mode
abbrev pub outputs_in : Mode → List ℕ → List ℕ → Does (List ℕ)
outputs_in mode blob own = asks (in_mode mode blob own) (told_in mode)

-- the blob in the outputs of a session that ran a job's code, and the outputs of the code after it
abbrev pub new_blob : List ℕ → List ℕ
new_blob outputs = part outputs 2 (big_number 2 outputs)

abbrev pub own_output : List ℕ → List ℕ
own_output outputs = drop (2 + big_number 2 outputs) outputs

-- ---- which slot opens

-- a blob opens where its probe is done
abbrev pub opens_by : List ℕ → End → Option (List ℕ)
opens_by blob (Done n) = Some blob
opens_by blob other = None

-- one that is too long for the inputs of a session does not open
abbrev pub opens_told : List ℕ → Result PalEnd Unbegun → Result (Option (List ℕ)) JobEnd
opens_told blob (Ok ended) = Ok (opens_by blob ended.end)
opens_told blob (Err HasLongInputs) = Ok None
opens_told blob (Err HasNoPlace) = Err ends.NoPlace

-- the blob that was read, if it opens
abbrev pub tries : Option (List ℕ) → Does (Option (List ℕ))
tries (Some blob) = asks (in_mode Probe blob []) (opens_told blob)
tries None = gives None

-- the blob of a slot, if it opens
abbrev pub looks : ℕ → ℕ → Does (Option (List ℕ))
looks j s = and_then (reads j s) tries

-- the slot of a job that opens, and its blob
pub record Standing : Type 0 where
  pub slot : ℕ
  pub blob : List ℕ

-- slot 1, if it opens
abbrev pub second_told : Option (List ℕ) → Does Standing
second_told (Some blob) = gives (record { slot = 1; blob = blob })
second_told None = ends_so ends.Lost

-- slot 0, if it opens, else slot 1
abbrev pub first_told : ℕ → Option (List ℕ) → Does Standing
first_told j (Some blob) = gives (record { slot = 0; blob = blob })
first_told j None = and_then (looks j 1) second_told

-- where a job stands: slot 0 is looked at first, and slot 1 where that does not open
abbrev pub finds : ℕ → Does Standing
finds j = and_then (looks j 0) (first_told j)

-- ---- calls, whose value is the output of the job's code

-- a job that is born at the place j of the list: its first blob is kept in slot 0
abbrev pub keeps_birth : ℕ → List ℕ → Does (List ℕ)
keeps_birth j outputs = and_then (keeps j 0 (new_blob outputs)) (λ kept. gives (own_output outputs))

abbrev pub born : ℕ → List ℕ → Does (List ℕ)
born j inputs = and_then (outputs_in New [] inputs) (keeps_birth j)

-- there is room for it in the list first
abbrev pub births : ℕ → List ℕ → Does (List ℕ)
births j inputs = and_then (asks MakeRoom (λ room. Ok room)) (λ room. born j inputs)

-- a step that is committed gives out its output
abbrev pub committed : List ℕ → Result (List ℕ) JobEnd → Result (List ℕ) JobEnd
committed own (Ok nothing) = Ok own
committed own (Err end) = Err end

abbrev pub commits : List ℕ → List ℕ → Does (List ℕ)
commits blob own = asks (in_mode Commit blob []) (λ reply. committed own (told_in Commit reply))

-- the new blob of a step is kept in a slot, and only then committed
abbrev pub keeps_step : ℕ → ℕ → List ℕ → Does (List ℕ)
keeps_step j s outputs =
    and_then (keeps j s (new_blob outputs)) (λ kept. commits (new_blob outputs) (own_output outputs))

-- a step from where a job stands: its new blob goes to the slot that does not open
abbrev pub steps_from : ℕ → List ℕ → Standing → Does (List ℕ)
steps_from j inputs standing =
    and_then (outputs_in Step standing.blob inputs) (keeps_step j (1 - standing.slot))

abbrev pub steps : ℕ → List ℕ → Does (List ℕ)
steps j inputs = and_then (finds j) (steps_from j inputs)

-- ---- what a call comes to

-- how a call ended, and the output of the job's code where it is done
pub record CallEnd : Type 0 where
  pub end : JobEnd
  pub output : List ℕ

-- by the output that it came to, or how it ended otherwise
abbrev pub output_end : Result (List ℕ) JobEnd → CallEnd
output_end (Ok output) = record { end = ends.Done (length output); output = output }
output_end (Err end) = record { end = end; output = [] }

-- by the slot that was found
abbrev pub slot_end : Result Standing JobEnd → CallEnd
slot_end (Ok standing) = record { end = ends.Found standing.slot; output = [] }
slot_end (Err end) = record { end = end; output = [] }

-- a call is refused at once, or carries out parts for the job of this image
pub data Course : Type 0 where
  IsRefused : (why : JobEnd) → Course
  Carries : (image : List ℕ) → (parts : Plan Part Gives CallEnd) → Course

-- what the calls carry out
abbrev pub births_told : ℕ → List ℕ → Plan Part Gives CallEnd
births_told j inputs = births j inputs >>= λ told. Return (output_end told)

abbrev pub steps_told : List ℕ → ℕ → Plan Part Gives CallEnd
steps_told inputs j = steps j inputs >>= λ told. Return (output_end told)

abbrev pub finds_told : ℕ → Plan Part Gives CallEnd
finds_told j = finds j >>= λ told. Return (slot_end told)

abbrev pub new_course_by : List Job → List ℕ → List ℕ → Option JobEnd → Course
new_course_by jobs image inputs (Some why) = IsRefused why
new_course_by jobs image inputs None = Carries image (births_told (length jobs) inputs)

-- to add a job
abbrev pub new_course : List Job → List ℕ → List ℕ → List ℕ → Course
new_course jobs name image inputs = new_course_by jobs image inputs (new_refusal jobs name image inputs)

-- parts for the job at a place
abbrev pub for_job : (ℕ → Plan Part Gives CallEnd) → ℕ → Option Job → Course
for_job parts j None = IsRefused ends.Unknown
for_job parts j (Some job) = Carries job.image (parts j)

-- a step of the job at a place, if there is one
abbrev pub step_course_at : List Job → List ℕ → Option ℕ → Course
step_course_at jobs inputs None = IsRefused ends.Unknown
step_course_at jobs inputs (Some j) =
    if are_long inputs then IsRefused ends.LongInput
    else for_job (steps_told inputs) j (slice_get jobs j)

-- a step of the job of this name
abbrev pub step_course : List Job → List ℕ → List ℕ → Course
step_course jobs name inputs = step_course_at jobs inputs (place_of jobs name)

-- to recover the job at a place, if there is one
abbrev pub recover_course_at : List Job → Option ℕ → Course
recover_course_at jobs None = IsRefused ends.Unknown
recover_course_at jobs (Some j) = for_job finds_told j (slice_get jobs j)

-- to recover the job of this name
abbrev pub recover_course : List Job → List ℕ → Course
recover_course jobs name = recover_course_at jobs (place_of jobs name)
