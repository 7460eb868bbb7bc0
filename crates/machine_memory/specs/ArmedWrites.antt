-- Device writes that are armed for a turn.
use Rattle.std.specs.Prelude.{ℕ, List, length, filter, fold, Bool, true, false, ◌&&◌, ◌==◌, Option}
use Rattle.std.specs.Prelude.{Some, is_none, if◌then◌else◌}
use Rattle.machine_memory.specs.declared.device.DevEnd.{DevEnd}
use Rattle.machine_memory.specs.declared.device.DevEnd.TheVariants.{Done, Blocked}
use Rattle.machine_memory.specs.Contents.{Contents}
use Rattle.machine_memory.specs.DeviceWrites.{device_end, after_device_write}

-- a write: the turn that it is armed for, its address and bytes, and how it ended, if it does not
-- wait
pub record Armed : Type 0 where
  pub turn : ℕ
  pub at : ℕ
  pub bytes : List ℕ
  pub ended : Option DevEnd

-- whether a write waits, by how it ended
abbrev pub is_waiting : Option DevEnd → Bool
is_waiting ended = is_none ended

-- whether it was done
abbrev pub is_done : Option DevEnd → Bool
is_done (Some Done) = true
is_done _ = false

-- whether it was blocked
abbrev pub is_blocked : Option DevEnd → Bool
is_blocked (Some Blocked) = true
is_blocked _ = false

-- whether the write waits for the turn
abbrev pub is_due : ℕ → Armed → Bool
is_due turn write = is_waiting write.ended && write.turn == turn

-- memory after writes of devices, in their order
abbrev pub after_device_writes : Contents → List Armed → Contents
after_device_writes = fold (λ memory write. after_device_write memory write.at write.bytes)

-- memory after the writes that wait for the turn, in the order of arming
abbrev pub memory_after_turn : ℕ → Contents → List Armed → Contents
memory_after_turn turn memory writes = after_device_writes memory (filter (is_due turn) writes)

-- a write after a turn, by the exclusion bits of memory, which no device changes
abbrev pub ended_by : ℕ → List Bool → Armed → Armed
ended_by turn excluded write =
    if is_due turn write
    then record write { ended = Some (device_end excluded write.at (length write.bytes)) }
    else write
