-- A disk in memory, which fails at the calls whose numbers it is given.
use Rattle.std.specs.Prelude.{ℕ, ◌==◌, List, Bool, true, false, if◌then◌else◌}
use Rattle.std.specs.List.{list_any}
use Rattle.flk_base.specs.Causes.{next_count}
use Rattle.job_store.specs.Contents.{Contents, blank}
use Rattle.job_store.specs.Calls.{Call, after_call}

-- what it holds, the numbers of the calls that fail, and how many calls and faults there have been.
-- A count stays at 2^64 - 1 once there; no number of a call that fails is so large.
pub record Simulated : Type 0 where
  pub contents : Contents
  pub failing : List ℕ
  pub calls : ℕ
  pub faults : ℕ

-- a disk of zeros that fails these calls, counted from 0
abbrev pub blank_failing : List ℕ → Simulated
blank_failing failing = record { contents = blank; failing = failing; calls = 0; faults = 0 }

-- whether the next call fails
abbrev pub fails : Simulated → Bool
fails disk = list_any (λ number. number == disk.calls) disk.failing

-- the disk after the next call, and whether the call was done: one that fails changes nothing
abbrev pub next : Call → Simulated → Simulated × Bool
next call disk =
    if fails disk
    then (
      record disk { calls = next_count disk.calls; faults = next_count disk.faults },
      false,
    )
    else (
      record disk { contents = after_call call disk.contents; calls = next_count disk.calls },
      true,
    )
