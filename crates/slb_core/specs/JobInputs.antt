-- The inputs of a job's session: a mode in one byte, how many bytes the blob has in two, the higher first, the blob, and
-- then the inputs of the job's code.
use Rattle.std.specs.Prelude.{◌≡◌, ℕ, ◌<◌, ◌^◌, ◌==◌, ◌&&◌, nat_lt, nat_le, Bool, true, List, ◌∷◌, ◌++◌}
use Rattle.std.specs.Prelude.{length, take, drop, slice_index, Option, Some, None, if◌then◌else◌}
use Rattle.byteorder.specs.Endian.{big_number, big_bytes}
use Rattle.slb_core.specs.declared.job_inputs.Mode.{Mode}
use Rattle.slb_core.specs.declared.job_inputs.Mode.TheVariants.{New, Step, Commit, Probe}

-- the number of each mode
abbrev pub mode_number : Mode → ℕ
mode_number New = 0
mode_number Step = 1
mode_number Commit = 2
mode_number Probe = 3

-- the mode of a number, if it has one
abbrev pub mode_of : ℕ → Option Mode
mode_of number =
    if number == 0 then Some New
    else if number == 1 then Some Step
    else if number == 2 then Some Commit
    else if number == 3 then Some Probe
    else None

-- what inputs ask for: a mode, with a blob, and with inputs of the job's code
pub record Asked : Type 0 where
  pub mode : Mode
  pub blob : List ℕ
  pub own : List ℕ

-- the inputs that ask for it
abbrev pub job_inputs : Asked → List ℕ
job_inputs asked =
    mode_number asked.mode ∷ (big_bytes 2 (length asked.blob) ++ asked.blob ++ asked.own)

-- a job that is born has no blob
abbrev pub may_have : Mode → ℕ → Bool
may_have New count = count == 0
may_have other count = true

-- what is asked for by a mode, so many bytes of blob, and the bytes after their number
abbrev pub asked_by : Option Mode → ℕ → List ℕ → Option Asked
asked_by None count rest = None
asked_by (Some mode) count rest =
    if may_have mode count && nat_le count (length rest)
    then Some (record { mode = mode; blob = take count rest; own = drop count rest })
    else None

-- what inputs ask for, if they are a job's
abbrev pub asked_of : List ℕ → Option Asked
asked_of inputs =
    if nat_lt (length inputs) 3 then None
    else asked_by (mode_of (slice_index inputs 0)) (big_number 2 (drop 1 inputs)) (drop 3 inputs)

-- what can be asked for: the blob's length has two bytes, and a job that is born has none
pub record CanBeAsked (asked : Asked) : Type 0 where
  pub short : length asked.blob < 2 ^ 16
  pub may : may_have asked.mode (length asked.blob) ≡ true
