-- When bytes are sealed, and what their record then bears.
use Rattle.std.proofs.Common.{◌≡◌, ◌≢◌, ℕ, ◌+◌, ◌≤◌, Bool, true, false, eqb, ltb, List}
use Rattle.std.proofs.Common.{length, Option, Some, None, Result, Ok, Err, refl, ◌∙◌, ap, subst}
use Rattle.std.proofs.Common.{arith}
use Rattle.std.specs.Prelude.{IfSome, if◌then◌else◌}
use Rattle.std.proofs.lemmas.Bool.{ltb-false, eqb-false}
use Rattle.tpm_state.specs.Counters.{Counter, Counters, counter_at, last_value, InRange}
use Rattle.tpm_state.specs.CounterLaws.{in_use_within}
use Rattle.seal_device.specs.Sealed.{Bearing, BearingInRange, longest_sealed}
use Rattle.seal_device.specs.Bearings.{bearing, bearing_at}
use Rattle.seal_device.specs.Sealing.{seal_bearing, unless_last, last_serial}
use Rattle.seal_device.specs.Refusals.Seal as seals

-- bytes are sealed with what their record bears: they are not too many, it is borne by the counter
-- that is asked for, and there is a serial
pub record Sealable {H : Type 0} (serial : ℕ) (c : Counters H) (bytes : List ℕ)
    (counter : Option ℕ) (ahead : Bool) (borne : Option Bearing) : Type 0
  where
    pub short : length bytes ≤ longest_sealed
    pub borne_is : bearing c counter ahead ≡ Ok borne
    pub free : serial ≢ last_serial

-- so it is where there is no refusal
pub sealable : {H : Type 0} (serial : ℕ) (c : Counters H) (bytes : List ℕ) (counter : Option ℕ)
    (ahead : Bool) (borne : Option Bearing) →
    seal_bearing serial c bytes counter ahead ≡ Ok borne →
    Sealable serial c bytes counter ahead borne
sealable serial c bytes counter ahead borne ok =
    by_length (ltb longest_sealed (length bytes)) refl ok where
      by_serial : (b : Bool) → eqb serial last_serial ≡ b → (other : Option Bearing) →
          (if b then Err seals.SerialEnd else Ok other) ≡ Ok borne →
          (serial ≢ last_serial) × (other ≡ borne)
      by_serial true last other is =
          absurd (let clash : Err seals.SerialEnd ≡ Ok borne = is in cc)
      by_serial false less other is =
          let same : ◌≡◌ {A = Result (Option Bearing) seals.Refusal} (Ok other) (Ok borne) = is in
          let one : other ≡ borne = cc in
          (eqb-false serial last_serial less, one)

      by_borne : (o : Result (Option Bearing) seals.Refusal) → bearing c counter ahead ≡ o →
          unless_last serial o ≡ Ok borne → length bytes ≤ longest_sealed →
          Sealable serial c bytes counter ahead borne
      by_borne (Err refusal) at is short =
          absurd (let clash : Err refusal ≡ Ok borne = is in cc)
      by_borne (Ok other) at is short =
          let both = by_serial (eqb serial last_serial) refl other is in
          let same : ◌≡◌ {A = Result (Option Bearing) seals.Refusal} (Ok other) (Ok borne) =
          ap (λ (o : Option Bearing). Ok o) both.1 in
          record { short = short; borne_is = at ∙ same; free = both.0 }

      by_length : (b : Bool) → ltb longest_sealed (length bytes) ≡ b →
          (if b
          then Err seals.TooLong
          else unless_last serial (bearing c counter ahead)) ≡ Ok borne →
          Sealable serial c bytes counter ahead borne
      by_length true long is = absurd (let clash : Err seals.TooLong ≡ Ok borne = is in cc)
      by_length false less is =
          by_borne (bearing c counter ahead) refl is (ltb-false longest_sealed (length bytes) less)

-- what a record bears by a counter in its ranges is in its range, and the counter is in use
pub record BorneBy {H : Type 0} (c : Counters H) (b : Bearing) : Type 0 where
  pub counter : Counter H
  pub in_use : counter_at c b.id ≡ Some counter
  pub at_least : counter.value ≤ b.value
  pub at_most : b.value ≤ last_value

-- a record bears nothing, or by a counter that is in use
pub borne_by : {H : Type 0} (c : Counters H) (counter : Option ℕ) (ahead : Bool)
    (borne : Option Bearing) → InRange c → bearing c counter ahead ≡ Ok borne →
    IfSome borne (BorneBy c)
borne_by c None ahead borne range is =
    let same : ◌≡◌ {A = Result (Option Bearing) seals.Refusal} (Ok None) (Ok borne) = is in
    let one : None ≡ borne = cc in
    subst (λ (o : Option Bearing). IfSome o (BorneBy c)) one tt
borne_by {H} c (Some id) ahead borne range is = by_slot ahead (counter_at c id) refl is where
  made : (counter : Counter H) (value : ℕ) → counter_at c id ≡ Some counter →
      counter.value ≤ value → value ≤ last_value →
      ◌≡◌ {A = Result (Option Bearing) seals.Refusal}
      (Ok (Some (record { id = id; value = value }))) (Ok borne) →
      IfSome borne (BorneBy c)
  made counter value at low high same =
      let b : Bearing = record { id = id; value = value } in
      let one : Some b ≡ borne = cc in
      subst (λ (o : Option Bearing). IfSome o (BorneBy c)) one
      (record { counter = counter; in_use = at; at_least = low; at_most = high })

  by_last : (counter : Counter H) → counter_at c id ≡ Some counter → (b : Bool) →
      eqb counter.value last_value ≡ b →
      (if b
      then Err seals.CounterEnd
      else Ok (Some (record { id = id; value = counter.value + 1 }))) ≡ Ok borne →
      IfSome borne (BorneBy c)
  by_last counter at true last is =
      absurd (let clash : Err seals.CounterEnd ≡ Ok borne = is in cc)
  by_last counter at false less is =
      let below = range.values id counter at in
      let most = range.largest in
      let other = eqb-false counter.value last_value less in
      made counter (counter.value + 1) at (omega arith) (omega arith) is

  by_slot : (ahead : Bool) (o : Option (Counter H)) → counter_at c id ≡ o →
      bearing_at id ahead o ≡ Ok borne → IfSome borne (BorneBy c)
  by_slot ahead None at is = absurd (let clash : Err seals.NoCounter ≡ Ok borne = is in cc)
  by_slot false (Some counter) at is =
      let below = range.values id counter at in
      let most = range.largest in
      made counter counter.value at (omega arith) (omega arith) is
  by_slot true (Some counter) at is =
      by_last counter at (eqb counter.value last_value) refl is

-- so what it bears is in its ranges
pub borne_in_range : {H : Type 0} (c : Counters H) (borne : Option Bearing) → InRange c →
    IfSome borne (BorneBy c) → IfSome borne BearingInRange
borne_in_range c None range by = tt
borne_in_range c (Some b) range by =
    let low = in_use_within c b.id by.counter by.in_use in
    let count = range.count in
    let high = by.at_most in
    (omega arith, omega arith)
