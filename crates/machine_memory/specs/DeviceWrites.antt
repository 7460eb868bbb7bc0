-- What a device's write does.
use Rattle.std.specs.Prelude.{◌⊎◌, ℕ, ◌+◌, ◌<◌, ◌≤◌, List, length, Bool, true, not, slice_index_or}
use Rattle.std.specs.Prelude.{if◌then◌else◌}
use Rattle.std.specs.List.{list_all, range_with_len}
use Rattle.machine_memory.specs.declared.device.DevEnd.{DevEnd}
use Rattle.machine_memory.specs.declared.device.DevEnd.TheVariants.{Done, Blocked}
use Rattle.machine_memory.specs.Contents.{Contents, IsExcluded, frame_of}
use Rattle.machine_memory.specs.Spans.{with_bytes}

-- an address is shut to devices: it lies past memory, or in an excluded frame
abbrev pub IsShut : Contents → ℕ → Type 0
IsShut memory address = (length memory.bytes ≤ address) ⊎ IsExcluded memory (frame_of address)

-- some of so many bytes from an address on is shut to devices
pub record HasShutByte (memory : Contents) (at count : ℕ) : Type 0 where
  pub address : ℕ
  pub from : at ≤ address
  pub before : address < at + count
  pub shut : IsShut memory address

-- whether an address lies in a frame that is not excluded
abbrev pub is_open : List Bool → ℕ → Bool
is_open excluded address = not (slice_index_or excluded (frame_of address) true)

-- whether a device may write so many bytes from an address on: each of them is open
unfoldable pub may_write : List Bool → ℕ → ℕ → Bool
may_write excluded at count = list_all (is_open excluded) (range_with_len at count)

-- how a device's write of so many bytes ends
abbrev pub device_end : List Bool → ℕ → ℕ → DevEnd
device_end excluded at count = if may_write excluded at count then Done else Blocked

-- memory after a device's write: a blocked one changes nothing
abbrev pub after_device_write : Contents → ℕ → List ℕ → Contents
after_device_write memory at bytes =
    if may_write memory.excluded at (length bytes) then with_bytes memory at bytes else memory
