-- The ends that calls can have.
use Rattle.std.specs.Prelude.{◌≡◌, ℕ, Bool, true, false, List, [], length, nat_lt}
use Rattle.job_engine.specs.declared.ends.JobEnd.{JobEnd}
use Rattle.job_engine.specs.declared.ends.JobEnd.TheVariants as ends
use Rattle.job_engine.specs.Calls.{CallEnd}

-- the output goes with this end: as many bytes as it says where a call is done, and none with another end
abbrev pub IsOutputOf : JobEnd → List ℕ → Type 0
IsOutputOf (ends.Done n) output = n ≡ length output
IsOutputOf other output = output ≡ []

-- the ends of a birth whose parts are carried out
abbrev pub ends_birth : JobEnd → Bool
ends_birth (ends.Done n) = true
ends_birth ends.NoCounterLeft = true
ends_birth ends.DiskFault = true
ends_birth (ends.Ended byte) = true
ends_birth ends.NoPlace = true
ends_birth ends.LongInput = true
ends_birth other = false

-- of a step
abbrev pub ends_step : JobEnd → Bool
ends_step (ends.Done n) = true
ends_step ends.Lost = true
ends_step ends.DiskFault = true
ends_step (ends.Ended byte) = true
ends_step ends.NoPlace = true
ends_step ends.LongInput = true
ends_step other = false

-- and of a recovery, which finds slot 0 or 1
abbrev pub ends_recovery : JobEnd → Bool
ends_recovery (ends.Found slot) = nat_lt slot 2
ends_recovery ends.Lost = true
ends_recovery ends.DiskFault = true
ends_recovery ends.NoPlace = true
ends_recovery other = false

-- the end is one of these, with the output that goes with it
abbrev pub IsOneOf : (JobEnd → Bool) → CallEnd → Type 0
IsOneOf such over = (such over.end ≡ true) × IsOutputOf over.end over.output

-- the ends of calls for which nothing is done
abbrev pub refuses_at_once : JobEnd → Bool
refuses_at_once ends.Unknown = true
refuses_at_once ends.Exists = true
refuses_at_once ends.TooMany = true
refuses_at_once ends.BadImage = true
refuses_at_once ends.LongInput = true
refuses_at_once other = false
