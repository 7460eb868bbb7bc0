-- What a launch and a close answer.
use Rattle.std.specs.Prelude.{ℕ, List, Option, Some, None, Result, Ok, Err, if◌then◌else◌}
use Rattle.flk_base.specs.Stop.{Fused}
use Rattle.seal_device.specs.Digests.{DigestDevice}
use Rattle.late_launch.specs.Boards.{DarkParts}
use Rattle.late_launch.specs.Regions.{region_bytes, with_outputs}
use Rattle.late_launch.specs.States.{SuspendedParts, LaunchedParts, ClosedParts, has_image, launched, lost}
use Rattle.late_launch.specs.declared.ends.End.{End}
use Rattle.late_launch.specs.declared.suspended.LaunchEnd.{LaunchEnd}
use Rattle.late_launch.specs.declared.suspended.LaunchEnd.TheVariants.{NotImage, PowerLost}
use Rattle.region_pool.specs.Spans.{without_span}

-- a launch whose region has an image, by what measuring it came to
abbrev pub measured_answer : SuspendedParts → Fused DigestDevice × Option (Unit {0}) →
    Result LaunchedParts LaunchEnd
measured_answer host (measured, Some done) = Ok (launched host measured)
measured_answer host (before, None) = Err (PowerLost (record {
  device = before.state;
  marks = without_span host.board.memory.marks host.area;
}))

-- a launch: without an image nothing changes
abbrev pub launch_answer : SuspendedParts → Fused DigestDevice × Option (Unit {0}) →
    Result LaunchedParts LaunchEnd
launch_answer host end =
    if has_image (region_bytes host.board.memory host.area)
    then measured_answer host end
    else Err (NotImage host)

-- a session that ended so, by what its closing extends came to
abbrev pub close_answer : LaunchedParts → End → ℕ → List ℕ →
    Fused DigestDevice × Option (Unit {0}) → Result ClosedParts DarkParts
close_answer session end turns outputs (before, None) = Err (lost session before.state)
close_answer session end turns outputs (after, Some done) = Ok (record {
  saved = session.saved;
  memory = with_outputs session.around session.area outputs;
  device = after.state;
  fuse = after.fuse;
  area = session.area;
  end = end;
  turns = turns;
})
