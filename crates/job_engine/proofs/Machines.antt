-- A plan of the device alone, as one of a whole machine: it leaves the disk as it was.
use Rattle.std.proofs.Common.{◌≡◌, Option, Some, None, refl, ap, ◌∙◌}
use Rattle.std.proofs.Math.Path.{fun_ext}
use Rattle.flk_base.specs.Plan.{Plan, Return, Ask, Machine, run, AnswerAlike}
use Rattle.flk_base.specs.Stop.{Limit, spent, ask_if, limited, with_fuse, end_of, fused}
use Rattle.seal_device.specs.Commands.{Command, PowerOn, Reply, costs}
use Rattle.job_store.specs.Commands.{slot_act}
use Rattle.job_store.specs.Simulated.{Simulated}
use Rattle.job_engine.specs.Commands.{ToDevice, ToSlots, CyclePower, any_costs, cycled, any_act, to_device, OfDevice}

-- it runs as on the device
pub run_to_device : {X S : Type 0} (m : Machine Command Reply S) (p : Plan Command Reply X) (s : S) (disk : Simulated)
    → run (any_act m) (to_device p) (s, disk) ≡ (((run m p s).0, disk), (run m p s).1)
run_to_device m (Return x) s disk = refl
run_to_device m (Ask c next) s disk = run_to_device m (next (m c s).1) (m c s).0 disk

-- so many commands of it are so many of the device's
pub limited_to_device : {X : Type 0} (p : Plan Command Reply X) (left : Limit)
    → limited any_costs (to_device p) left ≡ to_device (limited costs p left)
limited_to_device (Return x) left = refl
limited_to_device {X} (Ask c next) left = by_spent (λ less reply. limited_to_device (next reply) less) (spent (costs c) left) where
  by_spent : ((less : Limit) (reply : Reply c) → limited any_costs (to_device (next reply)) less ≡ to_device (limited costs (next reply) less))
      → (o : Option Limit)
      → ask_if (ToDevice c) left (λ less reply. limited any_costs (to_device (next reply)) less) o
      ≡ to_device (ask_if c left (λ less reply. limited costs (next reply) less) o)
  by_spent rest None = refl
  by_spent rest (Some less) = ap (λ next. Ask (ToDevice c) next) (fun_ext (λ reply. rest less reply))

-- with a fuse it ends as on the device
pub fused_to_device : {X S : Type 0} (m : Machine Command Reply S) (p : Plan Command Reply X) (s : S) (disk : Simulated) (left : Limit)
    → fused any_costs (any_act m) (to_device p) (with_fuse (s, disk) left)
    ≡ (let e = fused costs m p (with_fuse s left) in (with_fuse (e.0.state, disk) e.0.fuse, e.1))
fused_to_device m p s disk left =
    ap (λ q. end_of (run (any_act m) q (s, disk))) (limited_to_device p left)
    ∙ ap end_of (run_to_device m (limited costs p left) s disk)

-- where two devices answer each command alike, so do they beside one disk
pub any_alike : {S T : Type 0} (m : Machine Command Reply S) (n : Machine Command Reply T)
    (Fact : Command → T → Type 0) (Agree : S → T → Type 0)
    → AnswerAlike m n Fact Agree
    → AnswerAlike (any_act m) (any_act n) (OfDevice Fact) (λ s t. Agree s.0 t.0 × (s.1 ≡ t.1))
any_alike m n Fact Agree law (ToDevice c) s t fact agree =
    let one = law c s.0 t.0 fact agree.0 in ((one.0, agree.1), one.1)
any_alike m n Fact Agree law (ToSlots c) s t fact agree =
    ((agree.0, ap (λ disk. (slot_act c disk).0) agree.1), ap (λ disk. (slot_act c disk).1) agree.1)
any_alike m n Fact Agree law (CyclePower keep fill) s t fact agree =
    (((law PowerOn s.0 t.0 fact agree.0).0, ap (cycled keep fill) agree.1), refl)
