-- When a call on a source or a sink may answer that it failed. Each counts its own faults, and no
-- code that is generic over them can raise the count.
use Rattle.std.specs.Prelude.{◌≡◌, ℕ, ◌+◌, ◌-◌, ◌^◌, ◌≤◌, Bool, true, min, OnErr, OnOk, Result, Ok}
use Rattle.std.specs.Prelude.{Err}
use Rattle.flk_base.specs.declared.streams.PutFault.{PutFault}
use Rattle.flk_base.specs.declared.streams.PutFault.TheVariants.{Failed, NoMemory}

-- one more, up to the last number of 64 bits
abbrev pub next_count : ℕ → ℕ
next_count n = min (n + 1) (2 ^ 64 - 1)

-- the count of faults rose, or stands at the last value that it can have
abbrev pub Rose : ℕ → ℕ → Type 0
Rose before now = next_count before ≤ now

-- the count of faults never falls, an error comes only where it rose, and nothing else moves it
pub record HasCause {T E : Type 0} (before now : ℕ) (result : Result T E) : Type 0 where
  pub later : before ≤ now
  pub failed : OnErr result (Rose before now)
  pub stays : OnOk result (now ≡ before)

-- why a put is cut short: a fault was counted; or memory ran out, over a sink that may allocate,
-- and none was
abbrev pub IsCutBy : PutFault → Bool → ℕ → ℕ → Type 0
IsCutBy Failed may_allocate before now = (before ≤ now) × Rose before now
IsCutBy NoMemory may_allocate before now = (may_allocate ≡ true) × (now ≡ before)

-- the same of a put's answer: where all was put, no fault was counted
abbrev pub PutHasCause : {T : Type 0} → Result T PutFault → Bool → ℕ → ℕ → Type 0
PutHasCause (Ok done) may_allocate before now = now ≡ before
PutHasCause (Err fault) may_allocate before now = IsCutBy fault may_allocate before now
