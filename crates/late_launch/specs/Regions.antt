-- The area of a session: the region, in which the launched code runs, and memory around it.
use Rattle.std.specs.Prelude.{◌≡◌, ℕ, ◌+◌, ◌-◌, List, ◌++◌, length, replicate, false}
use Rattle.region_pool.specs.Spans.{Span}
use Rattle.machine_memory.specs.Writes.{part}
use Rattle.machine_memory.specs.Contents.{Contents, first_byte}
use Rattle.machine_memory.specs.Spans.{bytes_of, with_bytes}
use Rattle.machine_memory.specs.Areas.{IsArea, region_frames, region_of, guarded, unguarded, erased}
use Rattle.machine_memory.specs.ArmedWrites.{Armed, memory_after_turn}

-- how many bytes a page has
abbrev pub page_size : ℕ
page_size = 4096

-- the address of the input page: it follows the 16 frames of the region
abbrev pub input_page : Span → ℕ
input_page area = first_byte (area.first + 16)

-- the address of the output page, which follows the input page
abbrev pub output_page : Span → ℕ
output_page area = first_byte (area.first + 17)

-- the offset in the region where the inputs lie; the stack begins below it
abbrev pub inputs_offset : ℕ
inputs_offset = 57344

-- the bytes of the region
abbrev pub region_bytes : Contents → Span → List ℕ
region_bytes memory area = bytes_of memory (region_of area)

-- memory around a region: as memory is, but for the region, which is zero there and open to devices
abbrev pub around : Contents → Span → Contents
around memory area = unguarded (erased memory area) area

-- memory around a region after the device writes of a turn, from which the region is guarded: its bytes may change
abbrev pub around_after_turn : ℕ → Span → Contents → List Armed → Contents
around_after_turn turn area memory writes = record memory {
  bytes = (memory_after_turn turn (guarded memory area) writes).bytes;
}

-- devices are kept out of the region
abbrev pub IsGuarded : Contents → Span → Type 0
IsGuarded memory area = guarded memory area ≡ memory

-- the region is zero, and devices may write to it
pub record IsCleared (memory : Contents) (area : Span) : Type 0 where
  pub zero : region_bytes memory area ≡ replicate (first_byte region_frames) 0
  pub open_again : part memory.excluded area.first region_frames ≡ replicate region_frames false

-- a page of outputs: the outputs, and zeros after them
abbrev pub page : List ℕ → List ℕ
page outputs = outputs ++ replicate (page_size - length outputs) 0

-- memory with the outputs in the output page
abbrev pub with_outputs : Contents → Span → List ℕ → Contents
with_outputs memory area outputs = with_bytes memory (output_page area) (page outputs)

-- what is true of memory in every session: it holds the area, from whose region devices are kept out
pub record IsSession (memory : Contents) (area : Span) : Type 0 where
  pub placed : IsArea memory.marks area
  pub guarded_region : IsGuarded memory area

-- what is true of memory once a session has ended: it holds the area, whose region is clear
pub record IsOver (memory : Contents) (area : Span) : Type 0 where
  pub placed : IsArea memory.marks area
  pub cleared : IsCleared memory area
