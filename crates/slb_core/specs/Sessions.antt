-- A session from its launch to its close.
use Rattle.std.specs.Prelude.{◌≡◌, ◌≤◌, ℕ, length, Bool, true, false, List, Option, Some, None, Result, Ok, Err}
use Rattle.flk_base.specs.Plan.{Plan, Return, ◌>>=◌}
use Rattle.flk_base.specs.Stop.{Fused}
use Rattle.i386_profile.specs.declared.cpu.Cpu.{Cpu}
use Rattle.i386_profile.specs.declared.operands.Reg.TheVariants.{Ecx, Esi, Edi}
use Rattle.i386_profile.specs.Flags.{set}
use Rattle.i386_profile.specs.Effects.{State, state}
use Rattle.slb_image.specs.Image.{Image}
use Rattle.slb_image.specs.Fields.{image_of}
use Rattle.machine_memory.specs.Writes.{part, written}
use Rattle.machine_memory.specs.ArmedWrites.{Armed}
use Rattle.seal_device.specs.Commands.{Command, Reply}
use Rattle.seal_device.specs.Digests.{DigestDevice}
use Rattle.late_launch.specs.Boards.{DarkParts}
use Rattle.late_launch.specs.Regions.{input_page, inputs_offset, with_outputs}
use Rattle.late_launch.specs.Ends.{closing, extend_each}
use Rattle.late_launch.specs.States.{LaunchedParts, ClosedParts, image_in, lost}
use Rattle.slb_core.specs.Spans.{around_with}
use Rattle.slb_core.specs.Services.{outputs_offset, longest_outputs}
use Rattle.slb_core.specs.Pal.{Permits, Outside, CodeStart, PalEnd, permits_at, outside, after_writes, pal}
use Rattle.slb_core.specs.JobInputs.{asked_of}
use Rattle.slb_core.specs.Jobs.{does_asked}
use Rattle.slb_core.specs.Reports.{count_of}

-- what a session begins with: which device writes are permitted, the address of the input page, the registers,
-- the region, and the bytes of memory around it
pub record Setting : Type 0 where
  pub permits : Permits
  pub inputs_at : ℕ
  pub start : Cpu
  pub region : List ℕ
  pub bytes : List ℕ

-- what is outside when the code begins: the device writes of turn 0 are done
abbrev pub first_outside : Setting → List Armed → Outside
first_outside setting writes = after_writes setting.permits 0 (outside setting.bytes writes)

-- the inputs: so many first bytes of the input page
abbrev pub inputs_in : Setting → ℕ → Outside → List ℕ
inputs_in setting count o = part o.bytes setting.inputs_at count

-- the registers that the code begins with: how many bytes the inputs are, and where inputs and outputs lie
abbrev pub first_registers : Cpu → ℕ → Cpu
first_registers start count = set (set (set start Ecx count) Esi inputs_offset) Edi outputs_offset

-- the region that the code begins with: the inputs lie in it
abbrev pub first_region : Setting → ℕ → Outside → List ℕ
first_region setting count o = written setting.region inputs_offset (inputs_in setting count o)

-- the state that the code begins with
abbrev pub first_state : Setting → ℕ → Outside → State
first_state setting count o = state (first_registers setting.start count) (first_region setting count o)

-- what runs on these inputs: the code, for as many turns as its budget has; of a job what its inputs ask for
abbrev pub runs : Bool → CodeStart → List ℕ → Plan Command Reply PalEnd
runs false start inputs =
    pal false start.permits start.budget 0 start.state start.outside >>= λ code. Return code.ended
runs true start inputs = does_asked start (asked_of inputs)

-- what the code runs with, by its image
abbrev pub code_start : Image → Setting → ℕ → Outside → CodeStart
code_start image setting count o = record {
  budget = image.budget;
  permits = setting.permits;
  state = first_state setting count o;
  outside = o;
}

-- what runs by what the image says
abbrev pub runs_image : Image → Setting → ℕ → Outside → Plan Command Reply PalEnd
runs_image image setting count o =
    runs image.job (code_start image setting count o) (inputs_in setting count o)

-- the closing extends of register 17
abbrev pub closes : List ℕ → List ℕ → PalEnd → Plan Command Reply PalEnd
closes inputs nonce ended =
    extend_each (closing inputs ended.outputs ended.end nonce) >>= λ done. Return ended

-- the session: what runs, and the closing extends
abbrev pub serving : Setting → ℕ → List ℕ → List Armed → Plan Command Reply PalEnd
serving setting count nonce writes =
    runs_image (image_of (image_in setting.region)) setting count (first_outside setting writes)
    >>= closes (inputs_in setting count (first_outside setting writes)) nonce

-- ---- of a launched session

-- the device writes that a session permits
abbrev pub permits_of : LaunchedParts → Permits
permits_of session = permits_at session.around session.area

-- what a launched session begins with
abbrev pub setting_of : LaunchedParts → Setting
setting_of session = record {
  permits = permits_of session;
  inputs_at = input_page session.area;
  start = session.start;
  region = session.region;
  bytes = session.around.bytes;
}

-- a launched session when the code begins
abbrev pub begun : LaunchedParts → ℕ → Outside → LaunchedParts
begun session count o = record session {
  around = around_with session o.bytes;
  region = first_region (setting_of session) count o;
}

-- what the session answers
abbrev pub serve_answer : LaunchedParts → Fused DigestDevice × Option PalEnd → Result ClosedParts DarkParts
serve_answer session (before, None) = Err (lost session before.state)
serve_answer session (after, Some ended) = Ok (record {
  saved = session.saved;
  memory = with_outputs (around_with session ended.outside.bytes) session.area ended.outputs;
  device = after.state;
  fuse = after.fuse;
  area = session.area;
  end = ended.end;
  turns = ended.turns;
})

-- the armed writes after a session whose power was not lost
abbrev pub LeavesWrites : Fused DigestDevice × Option PalEnd → List Armed → Type 0
LeavesWrites (before, None) writes = Unit {0}
LeavesWrites (after, Some ended) writes = writes ≡ ended.outside.writes

-- the outputs of a session are as many bytes as its end says, and fit in their page
abbrev pub CountsOutputs : Fused DigestDevice × Option PalEnd → Type 0
CountsOutputs (before, None) = Unit {0}
CountsOutputs (after, Some ended) =
    (count_of ended.end ≡ length ended.outputs) × (length ended.outputs ≤ longest_outputs)
