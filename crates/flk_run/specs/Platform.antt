-- Platforms: a device by the rules of lists or of digests, the disk, what is around them, and the
-- fuse.
use Rattle.std.specs.Prelude.{ℕ, List, [], ◌∷◌, ◌++◌, Option, Some, None, slice_set}
use Rattle.std.specs.FinMap.{empty, insert}
use Rattle.flk_base.specs.Stop.{Limit}
use Rattle.tpm_state.specs.Chain.{Chain}
use Rattle.seal_device.specs.Rules.{Device, Rules}
use Rattle.seal_device.specs.Commands.{blank as unused_device}
use Rattle.seal_device.specs.Lists.{Made}
use Rattle.seal_device.specs.Agreement.{digested}
use Rattle.expr_text.specs.Variables.{Table}
use Rattle.i386_profile.specs.declared.cpu.Cpu.{Cpu}
use Rattle.machine_memory.specs.Contents.{zero_bytes}
use Rattle.machine_memory.specs.ArmedWrites.{Armed}
use Rattle.late_launch.specs.Boards.{zero_registers}
use Rattle.job_store.specs.Simulated.{Simulated}
use Rattle.machine_memory.specs.HostMemory.{HostMemory, blank_memory}

-- what is around the device, and the same on every platform: memory with the host's spans, the host's
-- registers, the device writes that are armed for the next session, and the values of the names that
-- the script bound
pub record Around : Type 0 where
  pub memory : HostMemory
  pub registers : Cpu
  pub armed : List Armed
  pub variables : Table

-- a platform, whose device keeps the history of a register as an H, and of what it gave out an M; the
-- fuse says how many commands are left before the power is lost
pub record Platform (H M : Type 0) : Type 0 where
  pub device : Device H M
  pub disk : Simulated
  pub around : Around
  pub fuse : Limit

-- by lists a register is its start and the texts that extended it, and by digests 20 bytes; by lists
-- the records that were sealed and the quotes that were made are kept, and by digests nothing is
abbrev pub ListPlatform : Type 0
ListPlatform = Platform Chain Made

abbrev pub DigestPlatform : Type 0
DigestPlatform = Platform (List ℕ) (Unit {0})

-- the platform by digests that one by lists stands for
abbrev pub platform_digested : ListPlatform → DigestPlatform
platform_digested p =
    record { device = digested p.device; disk = p.disk; around = p.around; fuse = p.fuse }

-- what is around after power-on, with no name bound, no span taken and no write armed
abbrev pub blank_around : Around
blank_around =
    record { memory = blank_memory; registers = zero_registers; armed = []; variables = empty }

-- a platform that was never used, beside this disk
abbrev pub blank : {H M : Type 0} → Rules H M → Simulated → Platform H M
blank R disk = record { device = unused_device R; disk = disk; around = blank_around; fuse = None }

-- with a name bound to a value
abbrev pub with_name : List ℕ → List ℕ → Around → Around
with_name name value w = record w { variables = insert w.variables name value }

-- with a name bound to a value, where there is one
abbrev pub with_name_if : Option (List ℕ) → List ℕ → Around → Around
with_name_if None value w = w
with_name_if (Some name) value w = with_name name value w

-- with a new value in a register of the host
abbrev pub with_register : ℕ → ℕ → Around → Around
with_register reg n w =
    record w { registers = record w.registers { regs = slice_set w.registers.regs reg n } }

-- with one more device write armed for the next session
abbrev pub with_armed : ℕ → ℕ → List ℕ → Around → Around
with_armed turn at bytes w = record w {
  armed = w.armed ++ record { turn = turn; at = at; bytes = bytes; ended = None } ∷ [];
}

-- with other memory
abbrev pub with_memory : HostMemory → Around → Around
with_memory memory w = record w { memory = memory }

-- after the power came back: memory and the host's registers are zero, its spans stay taken, no write
-- is armed, and names stay bound
abbrev pub after_power_on : Around → Around
after_power_on w = record w {
  memory = record w.memory { bytes = zero_bytes };
  registers = zero_registers;
  armed = [];
}

-- the platform without what belongs to the experimenter: no name is bound, and no write armed
abbrev pub at_rest : {H M : Type 0} → Platform H M → Platform H M
at_rest p = record p { around = record p.around { armed = []; variables = empty } }
