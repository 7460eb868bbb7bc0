-- That what the host does is a step of the platform by digests.
use Rattle.std.proofs.Common.{◌≡◌, ℕ, Bool, true, false, List, ◌++◌, Some, refl, ap, ◌∙◌}
use Rattle.std.specs.Option.{IfSome, option_map}
use Rattle.seal_device.specs.Digests.{digests}
use Rattle.script_text.specs.Grammar.{Request}
use Rattle.expr_text.specs.Variables.{Table}
use Rattle.job_store.specs.Simulated.{Simulated}
use Rattle.machine_memory.specs.HostMemory.{HostMemory}
use Rattle.flk_run.specs.Platform.{DigestPlatform, with_memory}
use Rattle.flk_run.specs.Answers.{Answer, line_of}
use Rattle.flk_run.specs.Events.{task_step, step, after, transcript_line}
use Rattle.machine_memory.specs.ArmedWrites.{Armed}
use Rattle.late_launch.specs.Boards.{BoardParts}
use Rattle.flk_run.specs.Parts.{KeepsDevice, known_if}
use Rattle.flk_run.specs.Tasks.{Task, task_of}

-- ---- events of memory

-- a platform whose memory an event left so, and what it answered
abbrev pub with_end : DigestPlatform → HostMemory × Answer → DigestPlatform × Answer
with_end p end = (record p { around = with_memory end.0 p.around }, end.1)

-- the platform of this hardware, with this memory and these armed writes
abbrev pub with_board : BoardParts → HostMemory → List Armed → Simulated → Table → DigestPlatform
with_board hardware memory armed disk variables =
    record {
      device = hardware.device;
      disk = disk;
      around =
          record { memory = memory; registers = hardware.registers; armed = armed; variables = variables };
      fuse = hardware.fuse;
    }

-- nothing of the hardware changes
pub kept : (hardware : BoardParts) → KeepsDevice hardware hardware
kept hardware = record { device = refl; registers = refl; fuse = refl }

-- the device, the registers and the fuse stay, and memory is as the event leaves it
pub memory_steps : (end : HostMemory × Answer) (board new : BoardParts) (old memory : HostMemory)
    (shown : Answer) (armed : List Armed) (disk : Simulated) (variables : Table) → KeepsDevice board new
    → ◌≡◌ {A = HostMemory × Answer} (memory, shown) end
    → ◌≡◌ {A = DigestPlatform × Answer} (with_board new memory armed disk variables, shown)
    (with_end (with_board board old armed disk variables) end)
memory_steps end board new old memory shown armed disk variables keeps is =
    rw (← is, keeps.device, keeps.registers, keeps.fuse) refl

-- ---- events

-- a task that was done on a platform is the event that it comes from
pub event_steps : (request : Request) (task : Task) (platform new : DigestPlatform) (shown : Answer)
    → task ≡ task_of request platform.around.variables
    → ◌≡◌ {A = DigestPlatform × Answer} (new, shown) (task_step digests task platform)
    → ◌≡◌ {A = DigestPlatform × Answer} (new, shown) (step digests request platform)
event_steps request task platform new shown comes is =
    is ∙ ap (λ (t : Task). task_step digests t platform) comes

-- the same of what is known of platforms
pub known_steps : (untaken : Bool) (request : Request) (task : Task) (old new : DigestPlatform)
    (shown : Answer) → task ≡ task_of request old.around.variables
    → (untaken ≡ true → ◌≡◌ {A = DigestPlatform × Answer} (new, shown) (task_step digests task old))
    → known_if untaken new ≡ option_map (after digests request) (known_if untaken old)
known_steps true request task old new shown comes is =
    ap (λ (end : DigestPlatform
    × Answer). Some end.0) (event_steps request task old new shown comes (is refl))
known_steps false request task old new shown comes is = refl

-- the line of an answer is the platform's
pub known_line : (untaken : Bool) (n : ℕ) (request : Request) (task : Task)
    (old new : DigestPlatform) (shown : Answer) (before made : List ℕ)
    → task ≡ task_of request old.around.variables
    → (untaken ≡ true → ◌≡◌ {A = DigestPlatform × Answer} (new, shown) (task_step digests task old))
    → made ≡ before ++ line_of n shown
    → IfSome (known_if untaken old) (λ p. made ≡ before ++ transcript_line digests n request p)
known_line true n request task old new shown before made comes is line =
    line ∙ ap (λ (end : DigestPlatform × Answer). before ++ line_of n end.1)
    (event_steps request task old new shown comes (is refl))
known_line false n request task old new shown before made comes is line = tt
