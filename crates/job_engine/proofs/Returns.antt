-- What calls can return, whatever their parts give: the ends that they can have.
use Rattle.std.proofs.Common.{◌≡◌, ◌-◌, ℕ, List, [], length, Bool, true, Option, Some, None, Result, Ok, Err, refl, subst}
use Rattle.std.specs.Prelude.{nat_lt}
use Rattle.flk_base.specs.Plan.{Plan, Return, Ask, ◌>>=◌}
use Rattle.late_launch.specs.declared.ends.End.{End}
use Rattle.late_launch.specs.declared.ends.End.TheVariants.{Done, Fault, Budget, Refused}
use Rattle.late_launch.specs.declared.ends.JobRefusal.TheVariants as refusals
use Rattle.slb_core.specs.Pal.{PalEnd}
use Rattle.slb_core.specs.declared.job_inputs.Mode.TheVariants.{New, Step}
use Rattle.slb_core.proofs.WriteLemmas.{ReturnsOnly, Any, only_bind}
use Rattle.job_store.specs.declared.disk.DiskFailed.{DiskFailed}
use Rattle.job_store.specs.Commands.{SlotCommand, SlotReply}
use Rattle.job_engine.specs.declared.ends.JobEnd.{JobEnd}
use Rattle.job_engine.specs.declared.ends.JobEnd.TheVariants as ends
use Rattle.job_engine.specs.Calls.{Part, MakeRoom, Gives, Unbegun, HasLongInputs, HasNoPlace, Does, gives, rest_of, asks, and_then, disk_told, reads, writes, syncs, keeps, outputs_by, outputs_told, birth_by, birth_told, outputs_in, new_blob, own_output, opens_told, tries, looks, Standing, second_told, first_told, finds, keeps_birth, born, births, committed, commits, keeps_step, steps_from, steps, CallEnd, output_end, slot_end, births_told, steps_told, finds_told}
use Rattle.job_engine.specs.Runs.{Ended, With, OutOfMemory, WithoutPower, Machines, Follows, MayEnd}
use Rattle.job_engine.specs.Ends.{ends_birth, ends_step, ends_recovery, IsOneOf}

-- a value with which parts may end is one that they can return
module _ {D : Type 0} (May : (c : SlotCommand) → D → D → SlotReply c → Type 0) (roomy : Bool) (image : List ℕ) where
  pub may_only : {X : Type 0} (Fact : X → Type 0) (p : Plan Part Gives X) (old new : Machines D) (x : X)
      → ReturnsOnly Fact p → MayEnd May roomy image p old new (With x) → Fact x
  may_only {X} Fact (Return y) old new x only ends =
      let same : y ≡ x = (let both : ◌≡◌ {A = Ended X} (With x) (With y) = ends.1 in cc) in
      subst Fact same only
  may_only {X} Fact (Ask part next) old new x only ends =
      by_first (λ given between follows. may_only Fact (next given) between new x (only given) follows) ends.0 ends.1 ends.3
    where
      by_first : ((given : Gives part) (between : Machines D) → MayEnd May roomy image (next given) between new (With x) → Fact x)
          → (e : Ended (Gives part)) (between : Machines D)
          → Follows May e between new (let end : Ended X = With x in end) (λ given. MayEnd May roomy image (next given) between new (With x))
          → Fact x
      by_first again (With given) between follows = again given between follows
      by_first again OutOfMemory between follows = absurd (let clash : ◌≡◌ {A = Ended X} (With x) OutOfMemory = follows.1 in cc)
      by_first again WithoutPower between follows = absurd (let clash : ◌≡◌ {A = Ended X} (With x) WithoutPower = follows.1 in cc)

module _ (Why : JobEnd → Type 0) where
  -- a value of this kind, or an end of that kind
  abbrev pub Comes : {X : Type 0} → (X → Type 0) → Result X JobEnd → Type 0
  Comes Fact (Ok x) = Fact x
  Comes Fact (Err end) = Why end

  -- what comes to a value, and then the rest by it
  then_only : {X Y : Type 0} (Fact : X → Type 0) (Other : Y → Type 0) (p : Does X) (f : X → Does Y)
      → ReturnsOnly (Comes Fact) p → ((x : X) → Fact x → ReturnsOnly (Comes Other) (f x)) → ReturnsOnly (Comes Other) (and_then p f)
  then_only {X} {Y} Fact Other p f first rest = only_bind (Comes Fact) (Comes Other) p (rest_of f) first by_told where
    by_told : (r : Result X JobEnd) → Comes Fact r → ReturnsOnly (Comes Other) (rest_of f r)
    by_told (Ok x) fact = rest x fact
    by_told (Err end) why = why

  -- what is told at the end of a call
  pub told_only : {X : Type 0} (Fact : X → Type 0) (Other : CallEnd → Type 0) (does : Does X) (told : Result X JobEnd → CallEnd)
      → ReturnsOnly (Comes Fact) does → ((r : Result X JobEnd) → Comes Fact r → Other (told r)) → ReturnsOnly Other (does >>= λ r. Return (told r))
  told_only Fact Other does told only so = only_bind (Comes Fact) Other does (λ r. Return (told r)) only so

  -- the disk may fail
  module _ (fails : Why ends.DiskFault) where
    disk_only : {X : Type 0} (r : Result X DiskFailed) → Comes Any (disk_told r)
    disk_only (Ok x) = tt
    disk_only (Err failed) = fails

    reads_only : (j s : ℕ) → ReturnsOnly (Comes Any) (reads j s)
    reads_only j s = λ reply. disk_only reply

    keeps_only : (j s : ℕ) (blob : List ℕ) → ReturnsOnly (Comes Any) (keeps j s blob)
    keeps_only j s blob = then_only Any Any (writes j s blob) (λ written. syncs) (λ reply. disk_only reply) (λ written any reply. disk_only reply)

    -- there may be no place for a session, and neither slot may open
    module _ (no_place : Why ends.NoPlace) (lost : Why ends.Lost) where
      opens_only : (blob : List ℕ) (reply : Result PalEnd Unbegun) → Comes Any (opens_told blob reply)
      opens_only blob (Ok ended) = tt
      opens_only blob (Err HasLongInputs) = tt
      opens_only blob (Err HasNoPlace) = no_place

      tries_only : (read : Option (List ℕ)) → ReturnsOnly (Comes Any) (tries read)
      tries_only (Some blob) = λ reply. opens_only blob reply
      tries_only None = tt

      looks_only : (j s : ℕ) → ReturnsOnly (Comes Any) (looks j s)
      looks_only j s = then_only Any Any (reads j s) tries (reads_only j s) (λ read any. tries_only read)

      -- slot 0 or 1 is found
      abbrev IsSlot : Standing → Type 0
      IsSlot standing = nat_lt standing.slot 2 ≡ true

      second_only : (opens : Option (List ℕ)) → ReturnsOnly (Comes IsSlot) (second_told opens)
      second_only (Some blob) = refl
      second_only None = lost

      first_only : (j : ℕ) (opens : Option (List ℕ)) → ReturnsOnly (Comes IsSlot) (first_told j opens)
      first_only j (Some blob) = refl
      first_only j None = then_only Any IsSlot (looks j 1) second_told (looks_only j 1) (λ opens any. second_only opens)

      pub finds_only : (j : ℕ) → ReturnsOnly (Comes IsSlot) (finds j)
      finds_only j = then_only Any IsSlot (looks j 0) (first_told j) (looks_only j 0) (λ opens any. first_only j opens)

    -- a session may not begin, or end otherwise than done
    module _ (no_place : Why ends.NoPlace) (long : Why ends.LongInput) (ended : (byte : ℕ) → Why (ends.Ended byte)) where
      by_only : (end : End) (outputs : List ℕ) → Comes Any (outputs_by end outputs)
      by_only (Done n) outputs = tt
      by_only (Fault kind) outputs = ended _
      by_only Budget outputs = ended _
      by_only (Refused why) outputs = ended _

      outputs_only : (reply : Result PalEnd Unbegun) → Comes Any (outputs_told reply)
      outputs_only (Ok over) = by_only over.end over.outputs
      outputs_only (Err HasLongInputs) = long
      outputs_only (Err HasNoPlace) = no_place

      -- a birth may want a counter
      module _ (no_counter : Why ends.NoCounterLeft) where
        birth_by_only : (end : End) (outputs : List ℕ) → Comes Any (birth_by end outputs)
        birth_by_only (Done n) outputs = tt
        birth_by_only (Fault kind) outputs = ended _
        birth_by_only Budget outputs = ended _
        birth_by_only (Refused refusals.Input) outputs = ended _
        birth_by_only (Refused refusals.NotOpen) outputs = ended _
        birth_by_only (Refused refusals.NoCounterLeft) outputs = no_counter
        birth_by_only (Refused refusals.CounterEnd) outputs = ended _
        birth_by_only (Refused refusals.Unprovisioned) outputs = ended _
        birth_by_only (Refused refusals.SerialEnd) outputs = ended _

        birth_only : (reply : Result PalEnd Unbegun) → Comes Any (birth_told reply)
        birth_only (Ok over) = birth_by_only over.end over.outputs
        birth_only (Err HasLongInputs) = long
        birth_only (Err HasNoPlace) = no_place

        keeps_birth_only : (j : ℕ) (outputs : List ℕ) → ReturnsOnly (Comes Any) (keeps_birth j outputs)
        keeps_birth_only j outputs = then_only Any Any (keeps j 0 (new_blob outputs)) (λ kept. gives (own_output outputs)) (keeps_only j 0 (new_blob outputs)) (λ kept any. tt)

        born_only : (j : ℕ) (inputs : List ℕ) → ReturnsOnly (Comes Any) (born j inputs)
        born_only j inputs = then_only Any Any (outputs_in New [] inputs) (keeps_birth j) (λ reply. birth_only reply) (λ outputs any. keeps_birth_only j outputs)

        pub births_only : (j : ℕ) (inputs : List ℕ) → ReturnsOnly (Comes Any) (births j inputs)
        births_only j inputs = then_only Any Any (asks MakeRoom (λ room. Ok room)) (λ room. born j inputs) (λ room. tt) (λ room any. born_only j inputs)

      -- a step begins where the job is found
      module _ (lost : Why ends.Lost) where
        committed_only : (own : List ℕ) (r : Result (List ℕ) JobEnd) → Comes Any r → Comes Any (committed own r)
        committed_only own (Ok nothing) any = tt
        committed_only own (Err end) why = why

        commits_only : (blob own : List ℕ) → ReturnsOnly (Comes Any) (commits blob own)
        commits_only blob own = λ reply. committed_only own (outputs_told reply) (outputs_only reply)

        keeps_step_only : (j s : ℕ) (outputs : List ℕ) → ReturnsOnly (Comes Any) (keeps_step j s outputs)
        keeps_step_only j s outputs =
            then_only Any Any (keeps j s (new_blob outputs)) (λ kept. commits (new_blob outputs) (own_output outputs)) (keeps_only j s (new_blob outputs))
            (λ kept any. commits_only (new_blob outputs) (own_output outputs))

        steps_from_only : (j : ℕ) (inputs : List ℕ) (standing : Standing) → ReturnsOnly (Comes Any) (steps_from j inputs standing)
        steps_from_only j inputs standing =
            then_only Any Any (outputs_in Step standing.blob inputs) (keeps_step j (1 - standing.slot)) (λ reply. outputs_only reply)
            (λ outputs any. keeps_step_only j (1 - standing.slot) outputs)

        pub steps_only : (j : ℕ) (inputs : List ℕ) → ReturnsOnly (Comes Any) (steps j inputs)
        steps_only j inputs = then_only (IsSlot no_place lost) Any (finds j) (steps_from j inputs) (finds_only no_place lost j) (λ standing any. steps_from_only j inputs standing)

-- ---- whole calls

-- what a call of these ends can be told that gives out nothing
abbrev GivesNone : (JobEnd → Bool) → JobEnd → Type 0
GivesNone such end = IsOneOf such (record { end = end; output = [] })

output_one : (such : JobEnd → Bool) → ((n : ℕ) → such (ends.Done n) ≡ true) → (r : Result (List ℕ) JobEnd) → Comes (GivesNone such) Any r → IsOneOf such (output_end r)
output_one such done (Ok output) any = (done (length output), refl)
output_one such done (Err end) why = why

slot_one : (r : Result Standing JobEnd) → Comes (GivesNone ends_recovery) (λ standing. nat_lt standing.slot 2 ≡ true) r → IsOneOf ends_recovery (slot_end r)
slot_one (Ok standing) is_slot = (is_slot, refl)
slot_one (Err end) why = why

pub births_end : (j : ℕ) (inputs : List ℕ) → ReturnsOnly (IsOneOf ends_birth) (births_told j inputs)
births_end j inputs =
    let Why = GivesNone ends_birth in
    told_only Why Any (IsOneOf ends_birth) (births j inputs) output_end
    (births_only Why (refl, refl) (refl, refl) (refl, refl) (λ byte. (refl, refl)) (refl, refl) j inputs)
    (output_one ends_birth (λ n. refl))

pub steps_end : (inputs : List ℕ) (j : ℕ) → ReturnsOnly (IsOneOf ends_step) (steps_told inputs j)
steps_end inputs j =
    let Why = GivesNone ends_step in
    told_only Why Any (IsOneOf ends_step) (steps j inputs) output_end
    (steps_only Why (refl, refl) (refl, refl) (refl, refl) (λ byte. (refl, refl)) (refl, refl) j inputs)
    (output_one ends_step (λ n. refl))

pub finds_end : (j : ℕ) → ReturnsOnly (IsOneOf ends_recovery) (finds_told j)
finds_end j =
    let Why = GivesNone ends_recovery in
    told_only Why (λ standing. nat_lt standing.slot 2 ≡ true) (IsOneOf ends_recovery) (finds j) slot_end
    (finds_only Why (refl, refl) (refl, refl) (refl, refl) j)
    slot_one
