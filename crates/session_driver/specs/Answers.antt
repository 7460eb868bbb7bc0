-- What a session answers, and what it leaves.
use Rattle.std.specs.Prelude.{◌≡◌, ℕ, List, length, nat_lt, replicate, Bool, true, false, Option, Some, None, Result, Ok, Err, if◌then◌else◌}
use Rattle.flk_base.specs.Stop.{Fused}
use Rattle.slb_image.specs.Faults.{image_fault}
use Rattle.slb_image.specs.declared.fault.ImageFault.{ImageFault}
use Rattle.region_pool.specs.declared.mark.Mark.{Mark}
use Rattle.region_pool.specs.Places.{place}
use Rattle.machine_memory.specs.ArmedWrites.{Armed}
use Rattle.seal_device.specs.Digests.{DigestDevice, on_device}
use Rattle.late_launch.specs.Boards.{BoardParts, DarkParts, fused_device}
use Rattle.late_launch.specs.Regions.{page}
use Rattle.slb_core.specs.Services.{longest_outputs}
use Rattle.slb_core.specs.Pal.{PalEnd}
use Rattle.slb_core.specs.Reports.{count_of}
use Rattle.session_driver.specs.Sessions.{area_frames, area_alignment, setting_in, session_plan, wiped}
use Rattle.session_driver.specs.declared.driver.SessionEnd.{SessionEnd}
use Rattle.session_driver.specs.declared.driver.SessionEnd.TheVariants.{Ended, NoPlace, NoMemory, BadImage, LongInput}

-- why a session is not begun: no image, inputs that do not fit in their page, no area that is free
pub data Refusal : Type 0 where
  IsNoImage : (fault : ImageFault) → Refusal
  HasLongInputs : Refusal
  HasNoPlace : Refusal

-- what a session comes to: it is refused, or it runs in the area at a frame
pub data Course : Type 0 where
  IsRefused : (why : Refusal) → Course
  RunsAt : (first : ℕ) → Course

-- in the area at the place, if there is one
abbrev pub placed : Option ℕ → Course
placed None = IsRefused HasNoPlace
placed (Some first) = RunsAt first

-- the first of the refusals, in their order; else the session runs at the place for an area
abbrev pub course_at : Option ℕ → List ℕ → Option ImageFault → Course
course_at place inputs (Some fault) = IsRefused (IsNoImage fault)
course_at place inputs None =
    if nat_lt longest_outputs (length inputs) then IsRefused HasLongInputs else placed place

-- what a session on memory with these marks comes to: an area has its lowest place
abbrev pub course : List Mark → List ℕ → List ℕ → Course
course marks image inputs =
    course_at (place marks area_frames area_alignment) inputs (image_fault image)

-- the code's end for a refusal
abbrev pub refused_end : Refusal → SessionEnd
refused_end (IsNoImage fault) = BadImage fault
refused_end HasLongInputs = LongInput
refused_end HasNoPlace = NoPlace

-- ---- the session in an area

-- how its plan ends on the board's device
abbrev pub ran_at : BoardParts → ℕ → List ℕ → List ℕ → List ℕ → List Armed → Fused DigestDevice × Option PalEnd
ran_at board first image inputs nonce writes =
    on_device (session_plan (setting_in board.memory first image inputs) image inputs nonce writes) (fused_device board)

-- the board after a session: of memory the bytes may have changed, the registers are as they were
abbrev pub board_after : BoardParts → ℕ → Fused DigestDevice → List ℕ → BoardParts
board_after board first device bytes = record {
  device = device.state;
  memory = record board.memory { bytes = wiped first bytes };
  registers = board.registers;
  fuse = device.fuse;
}

-- what is answered of it
abbrev pub ended_answer : BoardParts → ℕ → Fused DigestDevice × Option PalEnd → Result (BoardParts × SessionEnd) DarkParts
ended_answer board first (before, None) = Err (record { device = before.state; marks = board.memory.marks })
ended_answer board first (after, Some ended) =
    Ok (board_after board first after ended.outside.bytes, Ended ended.end ended.turns)

abbrev pub answer_of : BoardParts → List ℕ → List ℕ → List ℕ → List Armed → Course → Result (BoardParts × SessionEnd) DarkParts
answer_of board image inputs nonce writes (IsRefused why) = Ok (board, refused_end why)
answer_of board image inputs nonce writes (RunsAt first) =
    ended_answer board first (ran_at board first image inputs nonce writes)

-- ---- the armed writes and the outputs

-- what a session leaves, besides the board: where the power was lost, nothing is said of the armed writes
pub record Leaves (writes : List Armed) (out : List ℕ) (left : List Armed) (given : List ℕ) : Type 0 where
  pub armed : left ≡ writes
  pub outputs : given ≡ out

abbrev pub no_outputs : List ℕ
no_outputs = replicate longest_outputs 0

-- what one that ended leaves: the armed writes as they are outside then, and the outputs, which are as many bytes as
-- the end says, with zeros after them
pub record EndLeaves (ended : PalEnd) (left : List Armed) (given : List ℕ) : Type 0 where
  pub count : count_of ended.end ≡ length ended.outputs
  pub armed : left ≡ ended.outside.writes
  pub outputs : given ≡ page ended.outputs

abbrev pub ended_leaves : Fused DigestDevice × Option PalEnd → List Armed → List ℕ → Type 0
ended_leaves (before, None) left given = given ≡ no_outputs
ended_leaves (after, Some ended) left given = EndLeaves ended left given

abbrev pub LeavesBeside : BoardParts → List ℕ → List ℕ → List ℕ → List Armed → Course → List Armed → List ℕ → Type 0
LeavesBeside board image inputs nonce writes (IsRefused why) left given = Leaves writes no_outputs left given
LeavesBeside board image inputs nonce writes (RunsAt first) left given =
    ended_leaves (ran_at board first image inputs nonce writes) left given

-- ---- where there is no memory for the area

-- whether a session answered so
abbrev pub is_out_of_memory : Result (BoardParts × SessionEnd) DarkParts → Bool
is_out_of_memory (Ok (after, NoMemory)) = true
is_out_of_memory other = false

-- what is true where it did: it would have run, and all is as it was
pub record OutOfMemory (board : BoardParts) (writes : List Armed) (course : Course) (result : Result (BoardParts × SessionEnd) DarkParts) (left : List Armed) (given : List ℕ) : Type 0 where
  pub first : ℕ
  pub runs : course ≡ RunsAt first
  pub answer : result ≡ Ok (board, NoMemory)
  pub leaves : Leaves writes no_outputs left given
