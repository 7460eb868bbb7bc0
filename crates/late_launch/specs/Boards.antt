-- A board, and what is left of one without power.
use Rattle.std.specs.Prelude.{List, map, false, replicate, None}
use Rattle.flk_base.specs.Stop.{Limit, Fused, with_fuse}
use Rattle.i386_profile.specs.declared.cpu.Cpu.{Cpu}
use Rattle.region_pool.specs.declared.mark.Mark.{Mark}
use Rattle.region_pool.specs.Marks.{is_free}
use Rattle.machine_memory.specs.Contents.{Contents, blank, zero_bytes}
use Rattle.seal_device.specs.Commands.{PowerOn, act, blank as unused_device}
use Rattle.seal_device.specs.Digests.{DigestDevice, digests}

-- a board: its device, its memory, the host's registers and its fuse
pub record BoardParts : Type 0 where
  pub device : DigestDevice
  pub memory : Contents
  pub registers : Cpu
  pub fuse : Limit

-- all registers 0 and all flags clear
abbrev pub zero_registers : Cpu
zero_registers = record { regs = replicate 8 0; eip = 0; cf = false; zf = false; sf = false; of = false }

-- a board that was never used
abbrev pub blank_board : BoardParts
blank_board = record {
  device = unused_device digests;
  memory = blank;
  registers = zero_registers;
  fuse = None;
}

-- the device of a board, with its fuse
abbrev pub fused_device : BoardParts → Fused DigestDevice
fused_device board = with_fuse board.device board.fuse

-- what keeps its value without power: the device, and which frames are taken
pub record DarkParts : Type 0 where
  pub device : DigestDevice
  pub marks : List Mark

-- a board whose power is lost
abbrev pub fallen : BoardParts → DarkParts
fallen board = record { device = board.device; marks = board.memory.marks }

-- memory at power-on: all bytes are zero, and of the frames the free ones alone are excluded
abbrev pub first_memory : List Mark → Contents
first_memory marks = record { bytes = zero_bytes; marks = marks; excluded = map is_free marks }

-- the board at power-on: what a device does then, memory and host registers zero, and no fuse
abbrev pub powered : DarkParts → BoardParts
powered dark = record {
  device = (act digests PowerOn dark.device).0;
  memory = first_memory dark.marks;
  registers = zero_registers;
  fuse = None;
}
