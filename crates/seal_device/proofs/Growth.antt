-- What commands, and plans of them, do to the counters, by any rules.
use Rattle.std.proofs.Common.{◌≡◌, ◌≢◌, ℕ, false, Some, refl}
use Rattle.flk_base.specs.Plan.{Plan}
use Rattle.flk_base.specs.PlanLaws.{plans_keep}
use Rattle.flk_base.specs.Stop.{Fused, limited, fused}
use Rattle.tpm_state.specs.Counters.{Counter, counter_at, InRange, Grew}
use Rattle.tpm_state.specs.CounterLaws.{create_in_range, increment_in_range, create_grew}
use Rattle.tpm_state.specs.CounterLaws.{increment_grew, grew_same, grew_twice}
use Rattle.seal_device.specs.Rules.{Device, Rules}
use Rattle.seal_device.specs.Sealing.{present_chain}
use Rattle.seal_device.specs.Commands.{Command, NewCounter, Increment, Reply, act, costs}
use Rattle.seal_device.proofs.Effects.{counters_after}
use Rattle.seal_device.proofs.Owners.{create_leaves, increment_leaves}

-- counters stay in their ranges
pub range_stays : {H M : Type 0} (R : Rules H M) (c : Command) (d : Device H M) →
    InRange d.counters → InRange (act R c d).0.counters
range_stays R c d range =
    counters_after R c d (λ counters. InRange counters) range
    (λ one. create_in_range (present_chain R d) d.counters range)
    (λ id one. increment_in_range R.same id (present_chain R d) d.counters range)

-- each counter that is in use stays so, and its value never falls
pub counters_grow : {H M : Type 0} (R : Rules H M) (c : Command) (d : Device H M) →
    Grew d.counters (act R c d).0.counters
counters_grow R c d =
    counters_after R c d (λ counters. Grew d.counters counters) (grew_same d.counters)
    (λ one. create_grew (present_chain R d) d.counters)
    (λ id one. increment_grew R.same id (present_chain R d) d.counters)

-- a counter stays as it is while register 17 stands in another chain than its owner
pub owner_alone : {H M : Type 0} (R : Rules H M) (c : Command) (d : Device H M) (id : ℕ)
    (counter : Counter H) → counter_at d.counters id ≡ Some counter →
    R.same counter.owner (present_chain R d) ≡ false →
    counter_at (act R c d).0.counters id ≡ Some counter
owner_alone R c d id counter is foreign =
    counters_after R c d (λ counters. counter_at counters id ≡ Some counter) is
    (λ one. create_leaves (present_chain R d) d.counters id counter is)
    (λ at one. increment_leaves R.same at (present_chain R d) d.counters id counter is foreign)

-- no command but a creation and an increment changes any
pub counters_stay : {H M : Type 0} (R : Rules H M) (c : Command) (d : Device H M) →
    c ≢ NewCounter → ((id : ℕ) → c ≢ Increment id) → (act R c d).0.counters ≡ d.counters
counters_stay R c d no_creation no_increment =
    counters_after R c d (λ counters. counters ≡ d.counters) refl
    (λ one. absurd (no_creation one)) (λ id one. absurd (no_increment id one))

-- over plans counters stay in their ranges, and grow, wherever the fuse stops them
pub range_over_plans : {H M X : Type 0} (R : Rules H M) (plan : Plan Command Reply X)
    (before : Fused (Device H M)) → InRange before.state.counters →
    InRange (fused costs (act R) plan before).0.state.counters
range_over_plans {H} {M} R plan before range =
    plans_keep (act R) (λ (d : Device H M). InRange d.counters) (λ c d here. range_stays R c d here)
    (limited costs plan before.fuse) before.state range

pub grow_over_plans : {H M X : Type 0} (R : Rules H M) (plan : Plan Command Reply X)
    (before : Fused (Device H M)) →
    Grew before.state.counters (fused costs (act R) plan before).0.state.counters
grow_over_plans {H} {M} R plan before =
    let first = before.state.counters in
    plans_keep (act R) (λ (d : Device H M). Grew first d.counters)
    (λ c d grew. grew_twice first d.counters (act R c d).0.counters grew (counters_grow R c d))
    (limited costs plan before.fuse) before.state (grew_same first)
