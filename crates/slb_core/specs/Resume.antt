-- What devices do to memory in a session, and what the host finds when it goes on.
use Rattle.std.specs.Prelude.{◌≡◌, ◌≢◌, ℕ, zero, suc, ◌+◌, ◌&&◌, nat_le, List, ◌++◌, map, filter, fold, slice_get, Option, Some, None, Result, IfOk, if◌then◌else◌}
use Rattle.flk_base.specs.Stop.{Fused}
use Rattle.region_pool.specs.Spans.{Span, HasFrame}
use Rattle.machine_memory.specs.Writes.{part}
use Rattle.machine_memory.specs.Contents.{IsMemory, frame_of}
use Rattle.machine_memory.specs.Areas.{IsArea, region_of}
use Rattle.machine_memory.specs.ArmedWrites.{Armed, is_waiting, is_due}
use Rattle.seal_device.specs.Digests.{DigestDevice, on_device}
use Rattle.late_launch.specs.Boards.{BoardParts, DarkParts}
use Rattle.late_launch.specs.Regions.{page_size, output_page, page, IsCleared}
use Rattle.late_launch.specs.States.{SuspendedParts, LaunchedParts, ClosedParts, launched, session_device, resumed}
use Rattle.slb_core.specs.Pal.{Permits, Outside, PalEnd, permits_at, after_write, ended_write}
use Rattle.slb_core.specs.Sessions.{serving, setting_of}

-- ---- the device writes of a run of turns

-- the writes that wait for the turns from 0 to this one, in the order in which their time comes: turn by turn, and
-- in one turn as they were armed
abbrev pub writes_until : ℕ → List Armed → List Armed
writes_until zero writes = filter (is_due 0) writes
writes_until (suc turn) writes = writes_until turn writes ++ filter (is_due (suc turn)) writes

-- bytes after these writes, one after another: one that is permitted is done wholly, and another changes nothing
abbrev pub after_each : Permits → List ℕ → List Armed → List ℕ
after_each permits bytes writes = fold (after_write permits) bytes writes

-- a write after these turns: one that waited for one of them is done, or blocked
abbrev pub ended_until : Permits → ℕ → Armed → Armed
ended_until permits last write =
    if is_waiting write.ended && nat_le write.turn last then ended_write permits write else write

-- what is outside after the device writes of the turns from 0 to this one
pub record AreDoneUntil (permits : Permits) (bytes : List ℕ) (writes : List Armed) (last : ℕ) (after : Outside) : Type 0 where
  pub bytes_are : after.bytes ≡ after_each permits bytes (writes_until last writes)
  pub writes_are : after.writes ≡ map (ended_until permits last) writes

-- ---- at the resume

-- a byte of memory that is neither of the region nor of the output page
pub record IsElsewhere (area : Span) (address : ℕ) : Type 0 where
  pub region : ¬ HasFrame (region_of area) (frame_of address)
  pub outputs : frame_of address ≢ area.first + 17

-- what a host finds on its board when it goes on, by its board when it stood still, the outputs, the writes that
-- were armed, and how many turns the session took
pub record AtResume (before after : BoardParts) (area : Span) (outputs : List ℕ) (writes : List Armed) (turns : ℕ) : Type 0 where
  pub registers : after.registers ≡ before.registers
  pub region : IsCleared after.memory area
  pub output_page : part after.memory.bytes (output_page area) page_size ≡ page outputs
  pub others : (address : ℕ) → IsElsewhere area address
      → slice_get after.memory.bytes address
      ≡ slice_get (after_each (permits_at before.memory area) before.memory.bytes (writes_until turns writes)) address
  pub marks : after.memory.marks ≡ before.memory.marks
  pub excluded : (frame : ℕ) → ¬ HasFrame (region_of area) frame
      → slice_get after.memory.excluded frame ≡ slice_get before.memory.excluded frame

-- how a launched session ends on so many bytes of inputs
abbrev pub served : LaunchedParts → ℕ → List ℕ → List Armed → Fused DigestDevice × Option PalEnd
served session count nonce writes = on_device (serving (setting_of session) count nonce writes) (session_device session)

-- what the host of a session finds that ended so, and was closed
abbrev pub Resumes : SuspendedParts → List Armed → ClosedParts → Fused DigestDevice × Option PalEnd → Type 0
Resumes host writes closed (before, None) = Unit {0}
Resumes host writes closed (after, Some ended) =
    AtResume host.board (resumed closed) host.area ended.outputs writes closed.turns

-- what was launched resumes each host of which its launch was made, if it was closed and not lost
abbrev pub ResumesHost : LaunchedParts → List Armed → Fused DigestDevice × Option PalEnd → Result ClosedParts DarkParts → Type 0
ResumesHost session writes end answer =
    (host : SuspendedParts) (measured : Fused DigestDevice) → session ≡ launched host measured
    → IsMemory host.board.memory → IsArea host.board.memory.marks host.area
    → IfOk answer (λ closed. Resumes host writes closed end)
