-- Extends of register 17, one after another.
use Rattle.std.proofs.Common.{List, ℕ, [], ◌∷◌, Result, Ok, Err}
use Rattle.flk_base.specs.declared.fuse.PowerLost.{PowerLost}
use Rattle.flk_base.specs.Stop.{Fused, Ends, or_lost}
use Rattle.flk_base.specs.StopLaws.{ends_then, ends_lost}
use Rattle.seal_device.specs.Commands.{act, costs}
use Rattle.seal_device.specs.Digests.{DigestDevice, digests, on_device}
use Rattle.seal_device.specs.Faults.{power_lost}
use Rattle.late_launch.specs.Ends.{extend_each}

-- the first extend was made, and the others ended so
pub extend_then : (text : List ℕ) (texts : List (List ℕ)) (before between after : Fused DigestDevice) (answer : Result (Unit {0}) PowerLost)
    → Ends (or_lost power_lost) (on_device (extend_each (text ∷ [])) before) between (Ok tt)
    → Ends (or_lost power_lost) (on_device (extend_each texts) between) after answer
    → Ends (or_lost power_lost) (on_device (extend_each (text ∷ texts)) before) after answer
extend_then text texts before between after answer first rest =
    ends_then costs (act digests) (extend_each (text ∷ [])) (λ _. extend_each texts) power_lost before between after tt answer first rest

-- the power was lost before the first
pub extend_lost : (text : List ℕ) (texts : List (List ℕ)) (before after : Fused DigestDevice)
    → Ends (or_lost power_lost) (on_device (extend_each (text ∷ [])) before) after (Err power_lost)
    → Ends (or_lost power_lost) (on_device (extend_each (text ∷ texts)) before) after (Err power_lost)
extend_lost text texts before after first =
    ends_lost costs (act digests) (extend_each (text ∷ [])) (λ _. extend_each texts) power_lost before after first
