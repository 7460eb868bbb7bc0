-- What a session becomes whose region is lent.
use Rattle.std.specs.Prelude.{ℕ, List}
use Rattle.std.specs.List.{refill}
use Rattle.std.specs.Borrow.{Lends, MutBor, Fml, u8, Array}
use Rattle.machine_memory.specs.Contents.{first_byte}
use Rattle.machine_memory.specs.Areas.{region_frames}
use Rattle.late_launch.specs.contracts.launched.Launched.{the_row}
use Rattle.late_launch.specs.States.{LaunchedParts}

-- a session whose region was lent, and came back as these bytes. They are as many as were lent; a definition for
-- all lists cuts what is too long, and leaves the others where it is too short.
abbrev pub after_loan : LaunchedParts → List ℕ → LaunchedParts
after_loan session bytes = record session {
  region = refill (first_byte region_frames) session.region bytes;
}

-- the session ends with what was written through the loan as its region
abbrev pub LendsRegion : MutBor LaunchedParts → MutBor (List ℕ) → Fml
LendsRegion session loan = Lends the_row (Array u8 0) session loan (after_loan session.now)
