-- What a call answers and leaves.
use Rattle.std.specs.Prelude.{◌≡◌, ◌≤◌, ℕ, List, [], ◌∷◌, ◌++◌, take, map, Bool, true, false, is_some, Option, Some, None, option_map, Result, Ok, Err, if◌then◌else◌}
use Rattle.flk_base.specs.Plan.{Plan}
use Rattle.flk_base.specs.Stop.{Fused}
use Rattle.region_pool.specs.Places.{place}
use Rattle.region_pool.specs.declared.mark.Mark.{Mark}
use Rattle.seal_device.specs.Digests.{DigestDevice, on_device}
use Rattle.late_launch.specs.Boards.{BoardParts, DarkParts, fused_device}
use Rattle.late_launch.specs.Regions.{page, page_size}
use Rattle.session_driver.specs.Sessions.{area_frames, area_alignment}
use Rattle.late_launch.specs.declared.ends.End.{End}
use Rattle.late_launch.specs.declared.ends.End.TheVariants as session_ends
use Rattle.late_launch.specs.declared.ends.JobRefusal.TheVariants as refusals
use Rattle.late_launch.specs.Ends.{end_byte}
use Rattle.slb_core.specs.declared.job_inputs.Mode.{Mode}
use Rattle.slb_core.specs.declared.job_inputs.Mode.TheVariants.{New}
use Rattle.slb_core.specs.Pal.{PalEnd}
use Rattle.session_driver.specs.Answers.{no_outputs}
use Rattle.session_driver.specs.Quiet.{quiet_plan, HasOutputs}
use Rattle.session_driver.specs.declared.driver.SessionEnd.{SessionEnd}
use Rattle.session_driver.specs.declared.driver.SessionEnd.TheVariants as sessions
use Rattle.job_engine.specs.declared.ends.JobEnd.{JobEnd}
use Rattle.job_engine.specs.declared.ends.JobEnd.TheVariants as ends
use Rattle.job_store.specs.Commands.{SlotCommand, SlotReply}
use Rattle.job_engine.specs.declared.jobs.Entry.{Entry}
use Rattle.job_engine.specs.Jobs.{Job}
use Rattle.job_engine.specs.Calls.{Part, Gives, Unbegun, HasLongInputs, HasNoPlace, Does, Standing, CallEnd, Course, IsRefused, Carries}
use Rattle.job_engine.specs.declared.parts.SlotFound.{SlotFound}
use Rattle.job_engine.specs.declared.parts.Exit.{Exit}
use Rattle.job_engine.specs.declared.parts.Exit.TheVariants as exits
use Rattle.job_engine.specs.Runs.{Ended, With, OutOfMemory, WithoutPower, job_nonce, unbegun, SessionEnds, MayEnd}

-- a session has a place where memory with these marks has room for its area
abbrev pub is_roomy : List Mark → Bool
is_roomy marks = is_some (place marks area_frames area_alignment)

-- the board with another device and fuse; the rest of it stays
abbrev pub with_device : BoardParts → Fused DigestDevice → BoardParts
with_device board device = record board { device = device.state; fuse = device.fuse }

-- the board whose power was lost, with this device
abbrev pub dark_with : BoardParts → Fused DigestDevice → DarkParts
dark_with board device = record { device = device.state; marks = board.memory.marks }

-- what a call answers that ended so
abbrev pub answer_of : BoardParts → Fused DigestDevice → Ended CallEnd → Result (BoardParts × JobEnd) DarkParts
answer_of board device (With over) = Ok (with_device board device, over.end)
answer_of board device OutOfMemory = Ok (with_device board device, ends.NoMemory)
answer_of board device WithoutPower = Err (dark_with board device)

-- the outputs that it gives out, with zeros after them
abbrev pub output_of : Ended CallEnd → List ℕ
output_of (With over) = page over.output
output_of OutOfMemory = no_outputs
output_of WithoutPower = no_outputs

module _ {D : Type 0} (May : (c : SlotCommand) → D → D → SlotReply c → Type 0) where
  -- the call carried out parts, and ended and answered so
  pub record Carried (image : List ℕ) (parts : Plan Part Gives CallEnd) (board : BoardParts) (old new : D)
      (answer : Result (BoardParts × JobEnd) DarkParts) (out : List ℕ) : Type 0 where
    pub device : Fused DigestDevice
    pub end : Ended CallEnd
    pub ends : MayEnd May (is_roomy board.memory.marks) image parts (fused_device board, old) (device, new) end
    pub answers : answer ≡ answer_of board device end
    pub outputs : out ≡ output_of end

  -- it was refused at once, which leaves all as it was
  pub record RefusedAtOnce (why : JobEnd) (board : BoardParts) (old new : D) (answer : Result (BoardParts × JobEnd) DarkParts) (out : List ℕ) : Type 0 where
    pub answers : answer ≡ Ok (board, why)
    pub disk : new ≡ old
    pub outputs : out ≡ no_outputs

  -- how a call ends that comes to this
  abbrev pub CallEnds : Course → BoardParts → D → D → Result (BoardParts × JobEnd) DarkParts → List ℕ → Type 0
  CallEnds (IsRefused why) board old new answer out = RefusedAtOnce why board old new answer out
  CallEnds (Carries image parts) board old new answer out = Carried image parts board old new answer out

-- the list of jobs after a job was to be added: it is there where that is done, and else the list is as it was
abbrev pub jobs_after : List Job → List ℕ → List ℕ → Result (BoardParts × JobEnd) DarkParts → List Job
jobs_after jobs name image (Ok (board, ends.Done n)) = jobs ++ record { name = name; image = image } ∷ []
jobs_after jobs name image other = jobs

-- ---- what the code of a part of a call answers

-- the code's answer by how the part ended: its value, or the call's end, on the board that it left
abbrev pub exit_answer : {X : Type 0} → BoardParts → Fused DigestDevice → Ended (Result X JobEnd) → Result (BoardParts × X) Exit
exit_answer board device (With (Ok x)) = Ok (with_device board device, x)
exit_answer board device (With (Err end)) = Err (exits.Ended (with_device board device) end)
exit_answer board device OutOfMemory = Err (exits.Ended (with_device board device) ends.NoMemory)
exit_answer board device WithoutPower = Err (exits.Dark (dark_with board device))

-- it ended as the plan of its parts may
pub record Ran {D X : Type 0} (May : (c : SlotCommand) → D → D → SlotReply c → Type 0) (image : List ℕ) (does : Does X)
    (board : BoardParts) (old new : D) (answer : Result (BoardParts × X) Exit) : Type 0 where
  pub device : Fused DigestDevice
  pub end : Ended (Result X JobEnd)
  pub ends : MayEnd May (is_roomy board.memory.marks) image does (fused_device board, old) (device, new) end
  pub answers : answer ≡ exit_answer board device end

-- what a session answers that ended so, or was not begun
abbrev pub session_answer : BoardParts → Fused DigestDevice → Ended (Result PalEnd Unbegun) → Result (BoardParts × SessionEnd) DarkParts
session_answer board device (With (Ok ended)) = Ok (with_device board device, sessions.Ended ended.end ended.turns)
session_answer board device (With (Err HasLongInputs)) = Ok (with_device board device, sessions.LongInput)
session_answer board device (With (Err HasNoPlace)) = Ok (with_device board device, sessions.NoPlace)
session_answer board device OutOfMemory = Ok (with_device board device, sessions.NoMemory)
session_answer board device WithoutPower = Err (dark_with board device)

-- its outputs, with zeros after them
abbrev pub LeavesOutputs : Ended (Result PalEnd Unbegun) → List ℕ → Type 0
LeavesOutputs (With (Ok ended)) out = HasOutputs ended out
LeavesOutputs other out = Unit {0}

-- how a session ended on these inputs, if it was begun: on the device alone
pub record SessionRan (image inputs : List ℕ) (board : BoardParts) (device : Fused DigestDevice) (end : Ended (Result PalEnd Unbegun)) : Type 0 where
  pub ended : SessionEnds (unbegun (is_roomy board.memory.marks) inputs)
      (on_device (quiet_plan image inputs job_nonce) (fused_device board)) (fused_device board) device end

-- a session was run, and answered so
pub record SessionAnswers (image inputs : List ℕ) (board : BoardParts) (answer : Result (BoardParts × SessionEnd) DarkParts) (out : List ℕ) : Type 0 where
  pub device : Fused DigestDevice
  pub end : Ended (Result PalEnd Unbegun)
  pub ran : SessionRan image inputs board device end
  pub answers : answer ≡ session_answer board device end
  pub outputs : LeavesOutputs end out

-- what is told of how a part ended
abbrev pub told_end : {X Y : Type 0} → (X → Y) → Ended X → Ended Y
told_end told (With x) = With (told x)
told_end told OutOfMemory = OutOfMemory
told_end told WithoutPower = WithoutPower

-- a session was run, of which this is told
pub record SessionDid {X : Type 0} (told : Result PalEnd Unbegun → Result X JobEnd) (image inputs : List ℕ) (board : BoardParts) (answer : Result (BoardParts × X) Exit) : Type 0 where
  pub device : Fused DigestDevice
  pub end : Ended (Result PalEnd Unbegun)
  pub ran : SessionRan image inputs board device end
  pub answers : answer ≡ exit_answer board device (told_end told end)

-- ---- what is seen of the code's values

-- so many first bytes of a buffer
abbrev pub counted_in : List ℕ → Result (BoardParts × ℕ) Exit → Result (BoardParts × List ℕ) Exit
counted_in buffer (Ok (board, count)) = Ok (board, take count buffer)
counted_in buffer (Err exit) = Err exit

-- what is given out: these first bytes of a page, and zeros after them; else a page of zeros
abbrev pub GivesOut : Result (BoardParts × ℕ) Exit → List ℕ → Type 0
GivesOut (Ok (board, count)) out = (count ≤ page_size) × (out ≡ page (take count out))
GivesOut (Err exit) out = out ≡ no_outputs

-- so many first bytes, if there are any
abbrev pub blob_in : List ℕ → Result (BoardParts × Option ℕ) Exit → Result (BoardParts × Option (List ℕ)) Exit
blob_in buffer (Ok (board, found)) = Ok (board, option_map (λ count. take count buffer) found)
blob_in buffer (Err exit) = Err exit

-- a blob, if it opens
abbrev pub blob_if : List ℕ → Result (BoardParts × Bool) Exit → Result (BoardParts × Option (List ℕ)) Exit
blob_if blob (Ok (board, opens)) = Ok (board, if opens then Some blob else None)
blob_if blob (Err exit) = Err exit

-- a board alone
abbrev pub board_alone : Result BoardParts Exit → Result (BoardParts × Unit {0}) Exit
board_alone (Ok board) = Ok (board, tt)
board_alone (Err exit) = Err exit

-- where a job stands
abbrev pub standing_in : List ℕ → Result (BoardParts × SlotFound) Exit → Result (BoardParts × Standing) Exit
standing_in buffer (Ok (board, found)) = Ok (board, record { slot = found.slot; blob = take found.len buffer })
standing_in buffer (Err exit) = Err exit

-- how many bytes of outputs a session left that ended so, in this mode; else how the call ends
abbrev pub outputs_seen_by : Mode → End → Result ℕ JobEnd
outputs_seen_by mode (session_ends.Done count) = Ok count
outputs_seen_by New (session_ends.Refused refusals.NoCounterLeft) = Err ends.NoCounterLeft
outputs_seen_by mode end = Err (ends.Ended (end_byte end))

abbrev pub outputs_seen : Mode → SessionEnd → Result ℕ JobEnd
outputs_seen mode (sessions.Ended end turns) = outputs_seen_by mode end
outputs_seen mode sessions.NoPlace = Err ends.NoPlace
outputs_seen mode sessions.NoMemory = Err ends.NoMemory
outputs_seen mode sessions.LongInput = Err ends.LongInput
outputs_seen mode (sessions.BadImage fault) = Err ends.BadImage

-- whether a session ended so that a blob opens
abbrev pub opens_by_end : End → Bool
opens_by_end (session_ends.Done count) = true
opens_by_end other = false

abbrev pub opens_seen : SessionEnd → Result Bool JobEnd
opens_seen (sessions.Ended end turns) = Ok (opens_by_end end)
opens_seen sessions.LongInput = Ok false
opens_seen sessions.NoPlace = Err ends.NoPlace
opens_seen sessions.NoMemory = Err ends.NoMemory
opens_seen (sessions.BadImage fault) = Err ends.BadImage

-- ---- what a call answers by its parts

-- the output of the job's code was given out, or the call ended otherwise
abbrev pub output_answer : Result (BoardParts × ℕ) Exit → Result (BoardParts × JobEnd) DarkParts
output_answer (Ok (board, count)) = Ok (board, ends.Done count)
output_answer (Err (exits.Ended board end)) = Ok (board, end)
output_answer (Err (exits.Dark dark)) = Err dark

-- the slot was found, or the call ended otherwise
abbrev pub slot_answer : Result (BoardParts × SlotFound) Exit → Result (BoardParts × JobEnd) DarkParts
slot_answer (Ok (board, found)) = Ok (board, ends.Found found.slot)
slot_answer (Err (exits.Ended board end)) = Ok (board, end)
slot_answer (Err (exits.Dark dark)) = Err dark

-- ---- the list of jobs

-- a job of the list, with bytes in place of what holds them
abbrev pub job_seen : Entry → Job
job_seen entry = record { name = entry.name.bytes; image = entry.image.bytes }

-- all of them
abbrev pub jobs_seen : List Entry → List Job
jobs_seen entries = map job_seen entries
