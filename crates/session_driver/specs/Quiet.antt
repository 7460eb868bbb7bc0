-- Sessions while no device write is armed: what one does is told without memory, and it leaves memory as it was.
use Rattle.std.specs.Prelude.{◌≡◌, ℕ, List, [], length, false, Option, Some, None, Result, Ok, Err}
use Rattle.flk_base.specs.Plan.{Plan}
use Rattle.flk_base.specs.Stop.{Fused}
use Rattle.slb_image.specs.Fields.{image_of}
use Rattle.seal_device.specs.Commands.{Command, Reply}
use Rattle.seal_device.specs.Digests.{DigestDevice}
use Rattle.late_launch.specs.Boards.{BoardParts, DarkParts}
use Rattle.late_launch.specs.Regions.{page}
use Rattle.late_launch.specs.States.{start_registers}
use Rattle.slb_core.specs.Pal.{PalEnd}
use Rattle.slb_core.specs.Reports.{count_of}
use Rattle.slb_core.specs.Sessions.{Setting}
use Rattle.session_driver.specs.Sessions.{region_with, session_plan}
use Rattle.session_driver.specs.Answers.{no_outputs}
use Rattle.session_driver.specs.declared.driver.SessionEnd.{SessionEnd}
use Rattle.session_driver.specs.declared.driver.SessionEnd.TheVariants.{Ended}

-- what such a session begins with: no device write is permitted, and outside the region there are its inputs alone
abbrev pub quiet_setting : List ℕ → List ℕ → Setting
quiet_setting image inputs = record {
  permits = λ at count. false;
  inputs_at = 0;
  start = start_registers (image_of image).entry;
  region = region_with image;
  bytes = inputs;
}

-- the session
abbrev pub quiet_plan : List ℕ → List ℕ → List ℕ → Plan Command Reply PalEnd
quiet_plan image inputs nonce = session_plan (quiet_setting image inputs) image inputs nonce []

-- two sessions ended alike, whatever is outside then
pub record SameEnd (some other : PalEnd) : Type 0 where
  pub end : some.end ≡ other.end
  pub turns : some.turns ≡ other.turns
  pub outputs : some.outputs ≡ other.outputs

-- both have a value, and these are alike, or neither has one
abbrev pub BothOrNeither : {X Y : Type 0} → (X → Y → Type 0) → Option X → Option Y → Type 0
BothOrNeither Alike None None = Unit {0}
BothOrNeither Alike (Some x) (Some y) = Alike x y
BothOrNeither Alike some other = ⊥

-- two plans with a fuse ended on the same state, with values that are alike, or both without power
abbrev pub EndAlike : {S X Y : Type 0} → (X → Y → Type 0) → Fused S × Option X → Fused S × Option Y → Type 0
EndAlike Alike some other = (some.0 ≡ other.0) × BothOrNeither Alike some.1 other.1

-- what is answered of such a session that ended so: of the board the device and its fuse alone have changed
abbrev pub quiet_answer : BoardParts → Fused DigestDevice × Option PalEnd → Result (BoardParts × SessionEnd) DarkParts
quiet_answer board (before, None) = Err (record { device = before.state; marks = board.memory.marks })
quiet_answer board (after, Some ended) =
    Ok (record board { device = after.state; fuse = after.fuse }, Ended ended.end ended.turns)

-- and the outputs: as many bytes as the end says, with zeros after them; none where the power was lost
pub record HasOutputs (ended : PalEnd) (given : List ℕ) : Type 0 where
  pub count : count_of ended.end ≡ length ended.outputs
  pub page_is : given ≡ page ended.outputs

abbrev pub QuietOutputs : Fused DigestDevice × Option PalEnd → List ℕ → Type 0
QuietOutputs (before, None) given = given ≡ no_outputs
QuietOutputs (after, Some ended) given = HasOutputs ended given
