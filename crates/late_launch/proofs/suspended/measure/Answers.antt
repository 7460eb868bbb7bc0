use Rattle.std.proofs.Common.{ℕ, subst, take}
use Rattle.flk_base.specs.Plan.{ask}
use Rattle.flk_base.specs.Stop.{Ends, or_lost, with_fuse}
use Rattle.seal_device.specs.Commands.{Measure}
use Rattle.seal_device.specs.Digests.{on_device}
use Rattle.seal_device.specs.Faults.{power_lost}
use Rattle.late_launch.proofs.suspended.measure.Goals as goal

pub returns : goal.returns
returns c =
    subst (λ (n : ℕ). Ends (or_lost power_lost) (on_device (ask (Measure (take n c.args.region.now))) (with_fuse c.args.device.now c.args.fuse.now.left))
    (with_fuse c.measure.new.self c.measure.new.fuse.left) c.measure.result) c.image_len.ensures c.measure.ensures
