-- A session as one step of a board.
use Rattle.std.specs.Prelude.{ℕ, ◌-◌, List, ◌++◌, length, replicate}
use Rattle.flk_base.specs.Plan.{Plan, Ask}
use Rattle.slb_image.specs.Fields.{image_of}
use Rattle.region_pool.specs.Spans.{Span}
use Rattle.region_pool.specs.declared.ticket.Purpose.TheVariants.{Launch}
use Rattle.machine_memory.specs.Writes.{written}
use Rattle.machine_memory.specs.Contents.{Contents, first_byte}
use Rattle.machine_memory.specs.Spans.{after_take}
use Rattle.machine_memory.specs.ArmedWrites.{Armed}
use Rattle.seal_device.specs.Commands.{Command, Measure, Reply}
use Rattle.late_launch.specs.Regions.{input_page}
use Rattle.late_launch.specs.States.{start_registers}
use Rattle.slb_core.specs.Services.{segment_size}
use Rattle.slb_core.specs.Pal.{Permits, PalEnd, permits_at}
use Rattle.slb_core.specs.Sessions.{Setting, serving}

-- how many frames an area has, and of how many its first one is a multiple
abbrev pub area_frames : ℕ
area_frames = 18

abbrev pub area_alignment : ℕ
area_alignment = 16

-- the area that begins at a frame
abbrev pub area_at : ℕ → Span
area_at first = record { first = first; frames = area_frames; purpose = Launch }

-- the region that holds an image, and zeros after it
abbrev pub region_with : List ℕ → List ℕ
region_with image = image ++ replicate (segment_size - length image) 0

-- the device writes that a session permits, by memory before its area is taken
abbrev pub permits_in : Contents → Span → Permits
permits_in memory area = permits_at (after_take memory area) area

-- what a session of an image begins with, in the area at a frame, where these writes are permitted and memory has
-- these bytes: the inputs stand in the input page
abbrev pub setting_with : Permits → List ℕ → ℕ → List ℕ → List ℕ → Setting
setting_with permits bytes first image inputs = record {
  permits = permits;
  inputs_at = input_page (area_at first);
  start = start_registers (image_of image).entry;
  region = region_with image;
  bytes = written bytes (input_page (area_at first)) inputs;
}

-- what it begins with on memory whose area is still free
abbrev pub setting_in : Contents → ℕ → List ℕ → List ℕ → Setting
setting_in memory first image inputs =
    setting_with (permits_in memory (area_at first)) memory.bytes first image inputs

-- the session: the image is measured, and then what it runs
abbrev pub session_plan : Setting → List ℕ → List ℕ → List ℕ → List Armed → Plan Command Reply PalEnd
session_plan setting image inputs nonce writes =
    Ask (Measure image) (λ done. serving setting (length inputs) nonce writes)

-- the bytes of memory once the area at a frame was given back, which makes it zero
abbrev pub wiped : ℕ → List ℕ → List ℕ
wiped first bytes = written bytes (first_byte first) (replicate (first_byte area_frames) 0)
