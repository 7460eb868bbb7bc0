-- What a host finds after a session.
use Rattle.std.specs.Prelude.{◌≡◌, ◌⊎◌, ℕ, ◌+◌, ◌<◌, ◌≤◌, List, map, replicate, slice_get, Some, Result, Ok, Err}
use Rattle.region_pool.specs.Marks.{IsTaken}
use Rattle.region_pool.specs.Spans.{HasFrame}
use Rattle.region_pool.specs.Places.{place}
use Rattle.machine_memory.specs.Contents.{Contents, first_byte, frame_of}
use Rattle.machine_memory.specs.Spans.{bytes_of}
use Rattle.machine_memory.specs.ArmedWrites.{Armed}
use Rattle.late_launch.specs.Boards.{BoardParts, DarkParts}
use Rattle.slb_core.specs.Resume.{writes_until, after_each, ended_until}
use Rattle.session_driver.specs.Sessions.{area_frames, area_alignment, area_at, permits_in}
use Rattle.session_driver.specs.declared.driver.SessionEnd.{SessionEnd}
use Rattle.session_driver.specs.declared.driver.SessionEnd.TheVariants.{Ended}

-- a frame that is open to devices in a session whose area begins at the first one, where memory shuts them out of its
-- free frames alone: it is taken, or it is the input or the output page of the area
abbrev pub IsOpenIn : Contents → ℕ → ℕ → Type 0
IsOpenIn memory first frame = IsTaken memory.marks frame ⊎ ((first + 16 ≤ frame) × (frame < first + area_frames))

-- what a host finds on its board after a session of so many turns, and in the armed writes: the area was the lowest
-- free one, and is free and zero again; else memory is what the permitted device writes made of it
pub record AfterSession (before after : BoardParts) (writes left : List Armed) (turns : ℕ) : Type 0 where
  pub first : ℕ
  pub lowest : place before.memory.marks area_frames area_alignment ≡ Some first
  pub registers : after.registers ≡ before.registers
  pub marks : after.memory.marks ≡ before.memory.marks
  pub excluded : after.memory.excluded ≡ before.memory.excluded
  pub wiped : bytes_of after.memory (area_at first) ≡ replicate (first_byte area_frames) 0
  pub others : (address : ℕ) → ¬ HasFrame (area_at first) (frame_of address)
      → slice_get after.memory.bytes address
      ≡ slice_get (after_each (permits_in before.memory (area_at first)) before.memory.bytes (writes_until turns writes)) address
  pub armed : left ≡ map (ended_until (permits_in before.memory (area_at first)) turns) writes

-- what it finds by what was answered: after a refusal all is as it was; where the power was lost no host goes on
abbrev pub HostFinds : BoardParts → List Armed → Result (BoardParts × SessionEnd) DarkParts → List Armed → Type 0
HostFinds before writes (Ok (after, Ended end turns)) left = AfterSession before after writes left turns
HostFinds before writes (Ok (after, refused)) left = (after ≡ before) × (left ≡ writes)
HostFinds before writes (Err dark) left = Unit {0}
