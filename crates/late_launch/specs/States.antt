-- The states of a session, as contracts see them.
use Rattle.std.specs.Prelude.{ℕ, ◌&&◌, nat_le, is_none, Bool, List, take}
use Rattle.flk_base.specs.Stop.{Limit, Fused, with_fuse}
use Rattle.i386_profile.specs.declared.cpu.Cpu.{Cpu}
use Rattle.i386_profile.specs.declared.operands.Reg.TheVariants.{Esp}
use Rattle.i386_profile.specs.Flags.{set}
use Rattle.slb_image.specs.Fields.{length_field, image_of}
use Rattle.slb_image.specs.Faults.{image_fault}
use Rattle.region_pool.specs.Spans.{Span, without_span}
use Rattle.machine_memory.specs.Contents.{Contents}
use Rattle.seal_device.specs.Digests.{DigestDevice}
use Rattle.late_launch.specs.Boards.{BoardParts, DarkParts, zero_registers}
use Rattle.late_launch.specs.Regions.{region_bytes, around, inputs_offset}
use Rattle.late_launch.specs.declared.ends.End.{End}

-- a host that stands still: its board, and the area of the session that begins
pub record SuspendedParts : Type 0 where
  pub board : BoardParts
  pub area : Span

-- a session that runs: the host's registers, memory around the region, the region, the device and its
-- fuse, the area, and the registers that the launched code starts with
pub record LaunchedParts : Type 0 where
  pub saved : Cpu
  pub around : Contents
  pub region : List ℕ
  pub device : DigestDevice
  pub fuse : Limit
  pub area : Span
  pub start : Cpu

-- a session that has ended: the host's registers, memory, the device and its fuse, the area, and how
-- the session ended, after how many turns
pub record ClosedParts : Type 0 where
  pub saved : Cpu
  pub memory : Contents
  pub device : DigestDevice
  pub fuse : Limit
  pub area : Span
  pub end : End
  pub turns : ℕ

-- the most bytes that a launched image may have
abbrev pub longest_image : ℕ
longest_image = 49152

-- the image in a region: as many of its first bytes as its length word says
abbrev pub image_in : List ℕ → List ℕ
image_in region = take (length_field region) region

-- the region begins with an image that is not too long
abbrev pub has_image : List ℕ → Bool
has_image region =
    nat_le (length_field region) longest_image && is_none (image_fault (image_in region))

-- the registers that launched code starts with: all 0, but for its entry and its stack pointer
abbrev pub start_registers : ℕ → Cpu
start_registers entry = record (set zero_registers Esp inputs_offset) { eip = entry }

-- a session once its image was measured: it starts at the image's entry
abbrev pub launched : SuspendedParts → Fused DigestDevice → LaunchedParts
launched host measured = record {
  saved = host.board.registers;
  around = around host.board.memory host.area;
  region = region_bytes host.board.memory host.area;
  device = measured.state;
  fuse = measured.fuse;
  area = host.area;
  start = start_registers (image_of (image_in (region_bytes host.board.memory host.area))).entry;
}

-- the device of a session, with its fuse
abbrev pub session_device : LaunchedParts → Fused DigestDevice
session_device session = with_fuse session.device session.fuse

-- a session whose power is lost: its area is no longer taken
abbrev pub lost : LaunchedParts → DigestDevice → DarkParts
lost session device = record {
  device = device;
  marks = without_span session.around.marks session.area;
}

-- the board of a host that is resumed: its registers as they were saved, and the rest as the session left it
abbrev pub resumed : ClosedParts → BoardParts
resumed session = record {
  device = session.device;
  memory = session.memory;
  registers = session.saved;
  fuse = session.fuse;
}
