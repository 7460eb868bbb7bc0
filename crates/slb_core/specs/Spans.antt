-- Parts of a launched session that change while it runs.
use Rattle.std.specs.Prelude.{ℕ, List}
use Rattle.machine_memory.specs.Contents.{Contents}
use Rattle.late_launch.specs.States.{LaunchedParts}

-- a session with these bytes in its region
abbrev pub with_region : LaunchedParts → List ℕ → LaunchedParts
with_region session bytes = record session { region = bytes }

-- memory around its region, with these bytes
abbrev pub around_with : LaunchedParts → List ℕ → Contents
around_with session bytes = record session.around { bytes = bytes }
