-- On the disk in memory a call in parts ends as one plan.
use Rattle.std.proofs.Common.{◌≡◌, ℕ, suc, List, Bool, true, Option, Some, None, Result, Ok, Err, refl, sym, ap, subst, ◌∙◌, inl, inr}
use Rattle.std.specs.Prelude.{◌≢◌}
use Rattle.flk_base.specs.Plan.{Plan, Return, Ask, ask, ◌>>=◌, run}
use Rattle.flk_base.specs.Stop.{Limit, spent, ask_if, limited, Fused, with_fuse, end_of, then_fused, Ends}
use Rattle.flk_base.specs.StopLaws.{fused-bind}
use Rattle.flk_base.specs.Parts.{each_part}
use Rattle.seal_device.specs.Commands.{act}
use Rattle.seal_device.specs.Digests.{DigestDevice, digests, on_device}
use Rattle.slb_core.specs.Pal.{PalEnd}
use Rattle.session_driver.specs.Quiet.{quiet_plan}
use Rattle.job_store.specs.Commands.{SlotCommand, SlotReply, reply_of}
use Rattle.job_store.specs.Simulated.{Simulated}
use Rattle.job_engine.specs.Calls.{Part, MakeRoom, RunSession, OnSlots, Gives, Unbegun}
use Rattle.job_engine.specs.Commands.{AnyCommand, ToSlots, AnyReply, any_costs, any_act, to_device}
use Rattle.job_engine.specs.Runs.{Ended, With, OutOfMemory, WithoutPower, Machines, job_nonce, session_end, Runs, HasNoMemory, unbegun, SessionEnds, SlotsEnd, TakesStep, HasNoStep, PartEnds, Follows, MayEnd}
use Rattle.job_engine.specs.Whole.{SimulatedMay, KnownMay, both, on_both, session_or_not, own_plan, whole_plan, value_in, end_by, EndsWhole}
use Rattle.job_engine.proofs.Machines.{fused_to_device}

-- what the disk makes known of a call is all that it does
pub known_is_simulated : (c : SlotCommand) (old new : Simulated) (reply : SlotReply c) → KnownMay c old new reply → SimulatedMay c old new reply
known_is_simulated c old new reply may =
    ap (λ (r : SlotReply c). let end : Simulated × SlotReply c = (new, r) in end) may.replied
    ∙ ap (λ (end : Simulated × Bool). let replied : Simulated × SlotReply c = (end.0, reply_of c end.1 old.contents) in replied) may.called.known

-- another plan on both, from where one ended, by its value
abbrev then_on_both : {X Y : Type 0} → (X → Plan AnyCommand AnyReply Y) → Fused (DigestDevice × Simulated) × Option X → Fused (DigestDevice × Simulated) × Option Y
then_on_both rest end = then_fused any_costs (any_act (act digests)) rest end

-- two plans on both, one after the other
on_both-bind : {X Y : Type 0} (first : Plan AnyCommand AnyReply X) (rest : X → Plan AnyCommand AnyReply Y) (before : Fused (DigestDevice × Simulated))
    → on_both (first >>= rest) before ≡ then_on_both rest (on_both first before)
on_both-bind first rest before = fused-bind any_costs (any_act (act digests)) first rest before

-- ---- one part

-- a plan ended so from these machines; or nothing was done, because there was no memory
abbrev PlanEnds : {X : Type 0} → Plan AnyCommand AnyReply X → Machines Simulated → Machines Simulated → Ended X → Type 0
PlanEnds plan old new (With x) = on_both plan (both old) ≡ (both new, Some x)
PlanEnds plan old new OutOfMemory = new ≡ old
PlanEnds plan old new WithoutPower = on_both plan (both old) ≡ (both new, None)

-- the device with its fuse and the disk are the same
machines_same : (old new : Machines Simulated) → new.0 ≡ old.0 → new.1 ≡ old.1 → new ≡ old
machines_same old new device disk = ap (λ d. (d, new.1)) device ∙ ap (λ d. (old.0, d)) disk

-- a session that was begun
session_runs : (image inputs : List ℕ) (old new : Machines Simulated) (ran : Option PalEnd)
    → on_device (quiet_plan image inputs job_nonce) old.0 ≡ (new.0, ran) → new.1 ≡ old.1
    → PlanEnds (session_or_not image inputs None) old new (session_end ran)
session_runs image inputs old new ran is disk = by_value ran (on_both-bind session told (both old) ∙ ap (then_on_both told) ends) where
  session : Plan AnyCommand AnyReply PalEnd
  session = to_device (quiet_plan image inputs job_nonce)

  told : PalEnd → Plan AnyCommand AnyReply (Result PalEnd Unbegun)
  told ended = Return (Ok ended)

  ends : on_both session (both old) ≡ (both new, ran)
  ends =
      fused_to_device (act digests) (quiet_plan image inputs job_nonce) old.0.state old.1 old.0.fuse
      ∙ ap (λ (end : Fused DigestDevice × Option PalEnd). (both (end.0, old.1), end.1)) is
      ∙ ap (λ d. (both (new.0, d), ran)) (sym disk)

  by_value : (ran : Option PalEnd) → on_both (session >>= told) (both old) ≡ then_on_both told (both new, ran)
      → PlanEnds (session_or_not image inputs None) old new (session_end ran)
  by_value None ends = ends
  by_value (Some ended) ends = ends

-- any session
session_ends : (image inputs : List ℕ) (why : Option Unbegun) (old new : Machines Simulated) (end : Ended (Result PalEnd Unbegun))
    → SessionEnds why (on_device (quiet_plan image inputs job_nonce) old.0) old.0 new.0 end → new.1 ≡ old.1
    → PlanEnds (session_or_not image inputs why) old new end
session_ends image inputs (Some why) old new end (same, is) disk =
    subst (λ e. PlanEnds (session_or_not image inputs (Some why)) old new e) (sym is)
    (ap (λ machines. (both machines, Some (Err why))) (sym (machines_same old new same disk)))
session_ends image inputs None old new end (Runs same is) disk =
    let ran = on_device (quiet_plan image inputs job_nonce) old.0 in
    subst (λ e. PlanEnds (session_or_not image inputs None) old new e) (sym is)
    (session_runs image inputs old new ran.1 (ap (λ device. (device, ran.1)) (sym same)) disk)
session_ends image inputs None old new end (HasNoMemory same is) disk =
    subst (λ e. PlanEnds (session_or_not image inputs None) old new e) (sym is) (machines_same old new same disk)

-- what a command to the slots comes to, by what it leaves of the fuse
abbrev asked : (c : SlotCommand) → Machines Simulated → Option Limit → Fused (DigestDevice × Simulated) × Option (SlotReply c)
asked c old left =
    end_of (run (any_act (act digests)) (ask_if (ToSlots c) old.0.fuse (λ less reply. Return (less, Some reply)) left) (old.0.state, old.1))

module _ (May : (c : SlotCommand) → Simulated → Simulated → SlotReply c → Type 0)
    (simulated : (c : SlotCommand) (old new : Simulated) (reply : SlotReply c) → May c old new reply → SimulatedMay c old new reply) where
  -- a command to the slots
  slots_end : (c : SlotCommand) (old new : Machines Simulated) (end : Ended (SlotReply c)) → SlotsEnd May c old new end → PlanEnds (ask (ToSlots c)) old new end
  slots_end c old new end (TakesStep left step device reply may is) =
      subst (λ e. PlanEnds (ask (ToSlots c)) old new e) (sym is)
      (ap (asked c old) step
      ∙ ap (λ (done : Simulated × SlotReply c). (with_fuse (old.0.state, done.0) left, Some done.1)) (sym (simulated c old.1 new.1 reply may))
      ∙ ap (λ d. (both (d, new.1), Some reply)) (sym device))
  slots_end c old new end (HasNoStep nothing same is) =
      subst (λ e. PlanEnds (ask (ToSlots c)) old new e) (sym is)
      (ap (λ fuse. asked c old (spent true fuse)) nothing ∙ ap (λ machines. (both machines, None)) (sym same))

  module _ (roomy : Bool) (image : List ℕ) where
    -- any part
    part_ends : (part : Part) (old new : Machines Simulated) (end : Ended (Gives part))
        → PartEnds May roomy image part old new end → PlanEnds (own_plan roomy image part) old new end
    part_ends MakeRoom old new end (same, inl is) =
        subst (λ e. PlanEnds (own_plan roomy image MakeRoom) old new e) (sym is) (ap (λ machines. (both machines, Some tt)) (sym same))
    part_ends MakeRoom old new end (same, inr is) =
        subst (λ e. PlanEnds (own_plan roomy image MakeRoom) old new e) (sym is) same
    part_ends (RunSession inputs) old new end (session, disk) = session_ends image inputs (unbegun roomy inputs) old new end session disk
    part_ends (OnSlots c) old new end ends = slots_end c old new end ends

    -- a claim holds of all parts, however they may end, where it holds of none, and of a first part that gave something
    -- if it holds of what follows, that had no memory, and that was cut
    module _ {X : Type 0} (IsSo : Plan Part Gives X → Machines Simulated → Machines Simulated → Ended X → Type 0)
        (over : (x : X) (old : Machines Simulated) → IsSo (Return x) old old (With x))
        (goes_on : (part : Part) (next : Gives part → Plan Part Gives X) (old between new : Machines Simulated) (given : Gives part) (end : Ended X)
        → on_both (own_plan roomy image part) (both old) ≡ (both between, Some given) → IsSo (next given) between new end → IsSo (Ask part next) old new end)
        (no_memory : (part : Part) (next : Gives part → Plan Part Gives X) (old : Machines Simulated) → IsSo (Ask part next) old old OutOfMemory)
        (no_power : (part : Part) (next : Gives part → Plan Part Gives X) (old new : Machines Simulated)
        → on_both (own_plan roomy image part) (both old) ≡ (both new, None) → IsSo (Ask part next) old new WithoutPower) where
      -- by how the first part ended
      by_first : (part : Part) (next : Gives part → Plan Part Gives X) (old between new : Machines Simulated) (first : Ended (Gives part)) (end : Ended X)
          → PlanEnds (own_plan roomy image part) old between first
          → Follows May first between new end (λ given. MayEnd May roomy image (next given) between new end)
          → ((given : Gives part) → MayEnd May roomy image (next given) between new end → IsSo (next given) between new end)
          → IsSo (Ask part next) old new end
      by_first part next old between new (With given) end is follows rest = goes_on part next old between new given end is (rest given follows)
      by_first part next old between new OutOfMemory end same follows rest = rw (follows.0, follows.1, same) (no_memory part next old)
      by_first part next old between new WithoutPower end is follows rest = rw (follows.0, follows.1) (no_power part next old between is)

      -- and so of all
      by_parts : (parts : Plan Part Gives X) (old new : Machines Simulated) (end : Ended X) → MayEnd May roomy image parts old new end → IsSo parts old new end
      by_parts (Return x) old new end ends = rw (ends.0, ends.1) (over x old)
      by_parts (Ask part next) old new end (first, between, ended, follows) =
          by_first part next old between new first end (part_ends part old between first ended) follows
          (λ given. by_parts (next given) between new end)

-- ---- all parts

-- memory for one part more
abbrev one_more : Limit → Limit
one_more None = None
one_more (Some n) = Some (suc n)

module _ (roomy : Bool) (image : List ℕ) where
  -- parts are the first one's own plan, and then the rest, with memory for one less
  first_then_rest : {X : Type 0} (part : Part) (next : Gives part → Plan Part Gives X) (memory : Limit) (before : Fused (DigestDevice × Simulated))
      → on_both (whole_plan roomy image (limited each_part (Ask part next) (one_more memory))) before
      ≡ then_on_both (λ given. whole_plan roomy image (limited each_part (next given) memory)) (on_both (own_plan roomy image part) before)
  first_then_rest part next None before =
      on_both-bind (own_plan roomy image part) (λ given. whole_plan roomy image (limited each_part (next given) None)) before
  first_then_rest part next (Some n) before =
      on_both-bind (own_plan roomy image part) (λ given. whole_plan roomy image (limited each_part (next given) (Some n))) before

  -- the first part ended so, and the rest so from there, with this memory
  with_memory : {X : Type 0} (part : Part) (next : Gives part → Plan Part Gives X) (old new : Machines Simulated) (end : Ended X)
      (memory : Limit) (there : Fused (DigestDevice × Simulated) × Option (Gives part))
      → on_both (own_plan roomy image part) (both old) ≡ there
      → Ends end_by (then_on_both (λ given. whole_plan roomy image (limited each_part (next given) memory)) there) (both new) end
      → EndsWhole roomy image (Ask part next) old new end
  with_memory {X} part next old new end memory there is ends =
      let EndsSo : Fused (DigestDevice × Simulated) × Option (Limit × Option X) → Type 0 = λ there. Ends end_by there (both new) end in
      let rest = then_on_both (λ given. whole_plan roomy image (limited each_part (next given) memory)) in
      (one_more memory, subst EndsSo (sym (first_then_rest part next memory (both old) ∙ ap rest is)) ends)

  module _ (May : (c : SlotCommand) → Simulated → Simulated → SlotReply c → Type 0)
      (simulated : (c : SlotCommand) (old new : Simulated) (reply : SlotReply c) → May c old new reply → SimulatedMay c old new reply) where
    -- they end as one plan, where memory lasted for so many
    pub ends_whole : {X : Type 0} (parts : Plan Part Gives X) (old new : Machines Simulated) (end : Ended X)
        → MayEnd May roomy image parts old new end → EndsWhole roomy image parts old new end
    ends_whole {X} = by_parts May simulated roomy image (λ parts old new end. EndsWhole roomy image parts old new end)
        (λ x old. (None, (refl, refl)))
        (λ part next old between new given end is rest. with_memory part next old new end rest.0 (both between, Some given) is rest.1)
        (λ part next old. (Some 0, (refl, refl)))
        (λ part next old new is. with_memory part next old new WithoutPower None (both new, None) is (refl, refl))

    -- where it lasted for all, that is the plan of all
    pub ends_lasting : {X : Type 0} (parts : Plan Part Gives X) (old new : Machines Simulated) (end : Ended X)
        → MayEnd May roomy image parts old new end → end ≢ OutOfMemory
        → on_both (whole_plan roomy image parts) (both old) ≡ (both new, value_in end)
    ends_lasting {X} = by_parts May simulated roomy image
        (λ parts old new end. end ≢ OutOfMemory → on_both (whole_plan roomy image parts) (both old) ≡ (both new, value_in end))
        (λ x old lasts. refl)
        (λ part next old between new given end is rest lasts. first_whole part next old (both between, Some given) is ∙ rest lasts)
        (λ part next old lasts. absurd (lasts refl))
        (λ part next old new is lasts. first_whole part next old (both new, None) is) where
          first_whole : (part : Part) (next : Gives part → Plan Part Gives X) (old : Machines Simulated) (there : Fused (DigestDevice × Simulated) × Option (Gives part))
              → on_both (own_plan roomy image part) (both old) ≡ there
              → on_both (whole_plan roomy image (Ask part next)) (both old) ≡ then_on_both (λ given. whole_plan roomy image (next given)) there
          first_whole part next old there is =
              on_both-bind (own_plan roomy image part) (λ given. whole_plan roomy image (next given)) (both old)
              ∙ ap (then_on_both (λ given. whole_plan roomy image (next given))) is
