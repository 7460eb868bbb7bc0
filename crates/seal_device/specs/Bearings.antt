-- The counter that a record bears: with which value it is sealed, and when the counter has come to
-- that value.
use Rattle.std.specs.Prelude.{◌≡◌, ℕ, ◌+◌, ◌==◌, Bool, true, false, List, Option, Some, None}
use Rattle.std.specs.Prelude.{Result, Ok, Err, if◌then◌else◌}
use Rattle.tpm_state.specs.Counters.{Counter, Counters, counter_at, last_value}
use Rattle.seal_device.specs.Sealed.{Bearing, Sealed}
use Rattle.seal_device.specs.Refusals.Seal as seals

-- ---- at the sealing

-- what a record bears by this counter, if there is one: its present value, or where it is sealed
-- ahead the next one, which the last value has not
abbrev pub bearing_at : {H : Type 0} → ℕ → Bool → Option (Counter H) →
    Result (Option Bearing) seals.Refusal
bearing_at id ahead None = Err seals.NoCounter
bearing_at id false (Some counter) = Ok (Some (record { id = id; value = counter.value }))
bearing_at id true (Some counter) =
    if counter.value == last_value
    then Err seals.CounterEnd
    else Ok (Some (record { id = id; value = counter.value + 1 }))

-- what a record bears that is sealed by the counter of this number, or by none
abbrev pub bearing : {H : Type 0} → Counters H → Option ℕ → Bool →
    Result (Option Bearing) seals.Refusal
bearing c None ahead = Ok None
bearing c (Some id) ahead = bearing_at id ahead (counter_at c id)

-- ---- later

-- a counter is in use, and has this value
abbrev pub has_value : {H : Type 0} → ℕ → Option (Counter H) → Bool
has_value value None = false
has_value value (Some counter) = counter.value == value

-- a counter is in use, and this value is its next
abbrev pub has_next : {H : Type 0} → ℕ → Option (Counter H) → Bool
has_next value None = false
has_next value (Some counter) = counter.value + 1 == value

-- the counter that a record bears, if it bears one, has its value
abbrev pub counter_stands : {H : Type 0} → Counters H → Option Bearing → Bool
counter_stands c None = true
counter_stands c (Some b) = has_value b.value (counter_at c b.id)

-- a counter in use has the value that is borne
pub record Stands {H : Type 0} (c : Counters H) (b : Bearing) : Type 0 where
  pub counter : Counter H
  pub in_use : counter_at c b.id ≡ Some counter
  pub value : counter.value ≡ b.value

-- what a record holds, if the counter that it bears has its value
abbrev pub content : {G H : Type 0} → Counters H → Sealed G → Option (List ℕ)
content c r = if counter_stands c r.counter then Some r.bytes else None

-- the number of the counter of which the value that is borne is the next, if there is such a one
abbrev pub awaited : {H : Type 0} → Counters H → Option Bearing → Option ℕ
awaited c None = None
awaited c (Some b) = if has_next b.value (counter_at c b.id) then Some b.id else None
