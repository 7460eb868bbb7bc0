-- A session in an area that holds its image and its inputs.
use Rattle.std.specs.Prelude.{ℕ, List, Option, Some, None, Result, Ok, Err}
use Rattle.flk_base.specs.Plan.{Plan, Ask}
use Rattle.flk_base.specs.Stop.{Fused}
use Rattle.slb_image.specs.Fields.{image_of}
use Rattle.region_pool.specs.Spans.{Span, without_span}
use Rattle.machine_memory.specs.Contents.{Contents, first_byte}
use Rattle.machine_memory.specs.Spans.{with_bytes, after_give}
use Rattle.machine_memory.specs.ArmedWrites.{Armed}
use Rattle.seal_device.specs.Commands.{Command, Measure, Reply}
use Rattle.seal_device.specs.Digests.{DigestDevice}
use Rattle.late_launch.specs.Boards.{BoardParts, DarkParts}
use Rattle.late_launch.specs.Regions.{region_bytes, around, input_page}
use Rattle.late_launch.specs.States.{image_in, start_registers}
use Rattle.slb_core.specs.Pal.{PalEnd, permits_at}
use Rattle.slb_core.specs.Sessions.{Setting, serving}
use Rattle.session_driver.specs.declared.driver.SessionEnd.{SessionEnd}
use Rattle.session_driver.specs.declared.driver.SessionEnd.TheVariants.{Ended}

-- memory once the image stands at the beginning of an area, and the inputs in its input page
abbrev pub filled : Contents → Span → List ℕ → List ℕ → Contents
filled memory area image inputs =
    with_bytes (with_bytes memory (first_byte area.first) image) (input_page area) inputs

-- what a session begins with in this area
abbrev pub setting_at : Contents → Span → Setting
setting_at memory area = record {
  permits = permits_at (around memory area) area;
  inputs_at = input_page area;
  start = start_registers (image_of (image_in (region_bytes memory area))).entry;
  region = region_bytes memory area;
  bytes = (around memory area).bytes;
}

-- its plan
abbrev pub plan_at : Contents → Span → ℕ → List ℕ → List Armed → Plan Command Reply PalEnd
plan_at memory area count nonce writes =
    Ask (Measure (image_in (region_bytes memory area))) (λ done. serving (setting_at memory area) count nonce writes)

-- memory after it, once the area was given back
abbrev pub memory_after : Contents → Span → PalEnd → Contents
memory_after memory area ended =
    after_give (record (around memory area) { bytes = ended.outside.bytes }) area

-- what is answered of it
abbrev pub answer_at : BoardParts → Span → Fused DigestDevice × Option PalEnd → Result (BoardParts × SessionEnd) DarkParts
answer_at board area (before, None) = Err (record {
  device = before.state;
  marks = without_span board.memory.marks area;
})
answer_at board area (after, Some ended) = Ok (
  record {
    device = after.state;
    memory = memory_after board.memory area ended;
    registers = board.registers;
    fuse = after.fuse;
  },
  Ended ended.end ended.turns,
)
