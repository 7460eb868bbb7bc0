-- What a device seals: a record of bytes, bound to the history of register 17. H is what that
-- history is kept as: all its texts, or 20 bytes.
use Rattle.std.specs.Prelude.{ℕ, ◌<◌, ◌≤◌, ◌^◌, List, length, Option, IfSome}

-- a counter that a record bears, by its number, and the value that the counter has to have
pub record Bearing : Type 0 where
  pub id : ℕ
  pub value : ℕ

-- a sealed record: its number among all of the device, register 17's chain when it was sealed, the
-- counter that it bears, if it bears one, and the bytes
pub record Sealed (H : Type 0) : Type 0 where
  pub serial : ℕ
  pub chain : H
  pub counter : Option Bearing
  pub bytes : List ℕ

-- the record with its chain made another
abbrev pub with_chain_by : {G H : Type 0} → (G → H) → Sealed G → Sealed H
with_chain_by f r =
    record { serial = r.serial; chain = f r.chain; counter = r.counter; bytes = r.bytes }

-- how many bytes a record has at most
abbrev pub longest_sealed : ℕ
longest_sealed = 2048

-- the number that stands where a record bears no counter
abbrev pub no_counter : ℕ
no_counter = 255

-- a counter's number and value are in their ranges
abbrev pub BearingInRange : Bearing → Type 0
BearingInRange b = (b.id < no_counter) × (b.value < 2 ^ 32)

-- a record's numbers are in their ranges, and it has not too many bytes
pub record InRange {H : Type 0} (r : Sealed H) : Type 0 where
  pub serial : r.serial < 2 ^ 64
  pub counter : IfSome r.counter BearingInRange
  pub bytes : length r.bytes ≤ longest_sealed
