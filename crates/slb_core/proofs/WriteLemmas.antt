-- Device writes over all the turns of a session.
use Rattle.std.proofs.Common.{◌≡◌, ◌⊎◌, ℕ, zero, suc, ◌+◌, ◌-◌, ◌<◌, ◌≤◌, List, [], ◌∷◌, length, slice_get, map, sym, refl, ap, ◌∙◌, inl, inr, arith, add-one, Bool, true, false, Option, Some, None, Result, Ok, Err}
use Rattle.std.specs.Prelude.{filter, IfSome}
use Rattle.std.proofs.lemmas.Bool.{cases_lt, cases_eq, cases_Bool, both_ways, le-leb, lt-leb, eq-eqb, ne_eqb}
use Rattle.std.proofs.lemmas.List.Sums.{fold-append}
use Rattle.flk_base.specs.Plan.{Plan, Return, Ask, Machine, ◌>>=◌, run}
use Rattle.flk_base.specs.Stop.{Limit, Fused, limited, spent, ask_if, end_of, fused}
use Rattle.i386_profile.specs.Effects.{State}
use Rattle.slb_image.specs.Fields.{image_of}
use Rattle.machine_memory.specs.declared.device.DevEnd.{DevEnd}
use Rattle.machine_memory.specs.Writes.{written}
use Rattle.machine_memory.specs.Contents.{first_byte}
use Rattle.machine_memory.specs.DeviceWrites.{may_write}
use Rattle.machine_memory.specs.ArmedWrites.{Armed, is_due}
use Rattle.machine_memory.proofs.Pieces.{writes-written, written-nothing}
use Rattle.machine_memory.proofs.DeviceLemmas.{may_write-past}
use Rattle.tpm_state.specs.Refusals.Create as creates
use Rattle.tpm_state.specs.Refusals.Increment as increments
use Rattle.seal_device.specs.Blobs.{blob_counter}
use Rattle.seal_device.specs.Commands.{Reply}
use Rattle.seal_device.specs.Refusals.Seal as seals
use Rattle.seal_device.specs.Refusals.Unseal as unseals
use Rattle.late_launch.specs.declared.ends.End.{End}
use Rattle.late_launch.specs.declared.ends.End.TheVariants.{Done, Fault, Budget, Refused}
use Rattle.late_launch.specs.Ends.{closing, extend_each}
use Rattle.late_launch.specs.States.{image_in}
use Rattle.slb_core.specs.Services.{Next, Over, turn}
use Rattle.slb_core.specs.Pal.{Permits, Outside, CodeStart, PalEnd, CodeEnd, outside, after_write, ended_in, after_writes, followed, pal}
use Rattle.slb_core.specs.declared.job_inputs.Mode.{Mode}
use Rattle.slb_core.specs.declared.job_inputs.Mode.TheVariants as modes
use Rattle.slb_core.specs.JobInputs.{Asked, asked_of}
use Rattle.slb_core.specs.Jobs.{with_kept, sealed_end, seals_after, runs_with, born, steps_from, steps, committed, commits, probed, in_mode, does_asked}
use Rattle.slb_core.specs.Sessions.{Setting, first_outside, inputs_in, first_state, runs, runs_image, closes, serving}
use Rattle.slb_core.specs.Resume.{writes_until, after_each, ended_until, AreDoneUntil}

-- ---- the values that a plan may return

-- each of them has the fact, whatever the replies are
abbrev pub ReturnsOnly : {C : Type 0} {Reply : C → Type 0} {X : Type 0} → (X → Type 0) → Plan C Reply X → Type 0
ReturnsOnly Fact (Return x) = Fact x
ReturnsOnly {Reply = Reply} Fact (Ask c next) = (reply : Reply c) → ReturnsOnly Fact (next reply)

pub only_bind : {C : Type 0} {Reply : C → Type 0} {X Y : Type 0} (One : X → Type 0) (Other : Y → Type 0) (p : Plan C Reply X) (f : X → Plan C Reply Y)
    → ReturnsOnly One p → ((x : X) → One x → ReturnsOnly Other (f x)) → ReturnsOnly Other (p >>= f)
only_bind One Other (Return x) f only then_only = then_only x only
only_bind One Other (Ask c next) f only then_only = λ reply. only_bind One Other (next reply) f (only reply) then_only

-- a fact of everything
abbrev pub Any : {X : Type 0} → X → Type 0
Any x = Unit {0}

pub only_any : {C : Type 0} {Reply : C → Type 0} {X : Type 0} (p : Plan C Reply X) → ReturnsOnly Any p
only_any (Return x) = tt
only_any (Ask c next) = λ reply. only_any (next reply)

-- a plan with a fuse ends with one of them, if the power was not lost
pub only_fused : {C : Type 0} {Reply : C → Type 0} {X S : Type 0} (costs : C → Bool) (m : Machine C Reply S) (Fact : X → Type 0) (p : Plan C Reply X) (before : Fused S)
    → ReturnsOnly Fact p → IfSome (fused costs m p before).1 Fact
only_fused {C} {Reply} {X} {S} costs m Fact p before only = at p before.fuse before.state only where
  by_spent : (c : C) (next : Reply c → Plan C Reply X) (left : Limit) (s : S)
      → ((less : Limit) → IfSome (end_of (run m (limited costs (next (m c s).1) less) (m c s).0)).1 Fact)
      → (o : Option Limit) → IfSome (end_of (run m (ask_if c left (λ less reply. limited costs (next reply) less) o) s)).1 Fact
  by_spent c next left s again None = tt
  by_spent c next left s again (Some less) = again less

  at : (p : Plan C Reply X) (left : Limit) (s : S) → ReturnsOnly Fact p → IfSome (end_of (run m (limited costs p left) s)).1 Fact
  at (Return x) left s only = only
  at (Ask c next) left s only =
      by_spent c next left s (λ less. at (next (m c s).1) less (m c s).0 (only (m c s).1)) (spent (costs c) left)

-- ---- a write, turn by turn

abbrev write_of : ℕ → ℕ → List ℕ → Option DevEnd → Armed
write_of turn at bytes ended = record { turn = turn; at = at; bytes = bytes; ended = ended }

-- after turn 0
first_of_it : (permits : Permits) (turn at : ℕ) (bytes : List ℕ) (ended : Option DevEnd)
    → ended_in permits 0 (write_of turn at bytes ended) ≡ ended_until permits 0 (write_of turn at bytes ended)
first_of_it permits turn at bytes (Some end) = refl
first_of_it permits turn at bytes None =
    elim (cases_eq turn 0) [
      | inl e ↦ rw (eq-eqb turn 0 e, le-leb turn 0 (omega arith)) refl
      | inr ne ↦ rw (ne_eqb turn 0 ne, lt-leb turn 0 (omega arith)) refl
    ]

-- after one more turn
more_of_it : (permits : Permits) (last turn at : ℕ) (bytes : List ℕ) (ended : Option DevEnd)
    → ended_in permits (suc last) (ended_until permits last (write_of turn at bytes ended)) ≡ ended_until permits (suc last) (write_of turn at bytes ended)
more_of_it permits last turn at bytes (Some end) = refl
more_of_it permits last turn at bytes None =
    elim (cases_lt last turn) [
      | inl later ↦ elim (cases_eq turn (suc last)) [
        | inl e ↦ rw (lt-leb turn last later, eq-eqb turn (suc last) e, le-leb turn (suc last) (omega arith)) refl
        | inr ne ↦ rw (lt-leb turn last later, ne_eqb turn (suc last) ne, lt-leb turn (suc last) (omega arith)) refl
      ]
      | inr done ↦ rw (le-leb turn last done, le-leb turn (suc last) (omega arith)) refl
    ]

-- what the turns before leave of a write that is due in the next one: all of it
due_or_not : (permits : Permits) (last turn at : ℕ) (bytes : List ℕ) (ended : Option DevEnd)
    → (ended_until permits last (write_of turn at bytes ended) ≡ write_of turn at bytes ended)
    ⊎ ((is_due (suc last) (ended_until permits last (write_of turn at bytes ended)) ≡ false) × (is_due (suc last) (write_of turn at bytes ended) ≡ false))
due_or_not permits last turn at bytes (Some end) = inl refl
due_or_not permits last turn at bytes None =
    elim (cases_lt last turn) [
      | inl later ↦ inl (rw (lt-leb turn last later) refl)
      | inr done ↦ inr (rw (le-leb turn last done) refl, ne_eqb turn (suc last) (λ e. omega arith))
    ]

-- ---- all writes, turn by turn

first_of_all : (permits : Permits) (writes : List Armed) → map (ended_in permits 0) writes ≡ map (ended_until permits 0) writes
first_of_all permits [] = refl
first_of_all permits (write ∷ writes) =
    ap (λ (w : Armed). w ∷ map (ended_in permits 0) writes) (first_of_it permits write.turn write.at write.bytes write.ended)
    ∙ ap (λ (ws : List Armed). ended_until permits 0 write ∷ ws) (first_of_all permits writes)

more_of_all : (permits : Permits) (last : ℕ) (writes : List Armed) → map (ended_in permits (suc last)) (map (ended_until permits last) writes) ≡ map (ended_until permits (suc last)) writes
more_of_all permits last [] = refl
more_of_all permits last (write ∷ writes) =
    ap (λ (w : Armed). w ∷ map (ended_in permits (suc last)) (map (ended_until permits last) writes)) (more_of_it permits last write.turn write.at write.bytes write.ended)
    ∙ ap (λ (ws : List Armed). ended_until permits (suc last) write ∷ ws) (more_of_all permits last writes)

-- which are due in the next turn, the turns before do not change
due_next : (permits : Permits) (last : ℕ) (writes : List Armed) → filter (is_due (suc last)) (map (ended_until permits last) writes) ≡ filter (is_due (suc last)) writes
due_next permits last [] = refl
due_next permits last (write ∷ writes) =
    let rest = due_next permits last writes in
    elim (due_or_not permits last write.turn write.at write.bytes write.ended) [
      | inl same ↦ ap (λ (w : Armed). filter (is_due (suc last)) (w ∷ map (ended_until permits last) writes)) same
          ∙ kept write (map (ended_until permits last) writes) writes rest
      | inr never ↦ passed (ended_until permits last write) (map (ended_until permits last) writes) never.0
          ∙ rest ∙ sym (passed write writes never.1)
    ]
  where
    kept : (write : Armed) (some other : List Armed) → filter (is_due (suc last)) some ≡ filter (is_due (suc last)) other
        → filter (is_due (suc last)) (write ∷ some) ≡ filter (is_due (suc last)) (write ∷ other)
    kept write some other same = rw same refl

    passed : (write : Armed) (others : List Armed) → is_due (suc last) write ≡ false → filter (is_due (suc last)) (write ∷ others) ≡ filter (is_due (suc last)) others
    passed write others never = rw never refl

-- the turns from 0 on, one more each time
done_first : (permits : Permits) (bytes : List ℕ) (writes : List Armed) → AreDoneUntil permits bytes writes 0 (after_writes permits 0 (outside bytes writes))
done_first permits bytes writes = record { bytes_are = refl; writes_are = first_of_all permits writes }

done_more : (permits : Permits) (bytes : List ℕ) (writes : List Armed) (last : ℕ) (o : Outside)
    → AreDoneUntil permits bytes writes last o → AreDoneUntil permits bytes writes (suc last) (after_writes permits (suc last) o)
done_more permits bytes writes last o done = record {
  bytes_are = ap (λ (ws : List Armed). after_each permits o.bytes (filter (is_due (suc last)) ws)) done.writes_are
      ∙ ap (λ (ws : List Armed). after_each permits o.bytes ws) (due_next permits last writes)
      ∙ ap (λ (xs : List ℕ). after_each permits xs (filter (is_due (suc last)) writes)) done.bytes_are
      ∙ sym (fold-append (after_write permits) bytes (writes_until last writes) (filter (is_due (suc last)) writes));
  writes_are = ap (λ (ws : List Armed). map (ended_in permits (suc last)) ws) done.writes_are ∙ more_of_all permits last writes;
}

-- ---- a session

module _ (permits : Permits) (bytes : List ℕ) (writes : List Armed) where
  -- what is outside at an end is what the device writes made of it until the last turn
  abbrev pub EndsSo : PalEnd → Type 0
  EndsSo ended = AreDoneUntil permits bytes writes ended.turns ended.outside

  abbrev CodeEndsSo : CodeEnd → Type 0
  CodeEndsSo code = EndsSo code.ended

  pal_only : (job : Bool) (more last : ℕ) (s : State) (o : Outside) → AreDoneUntil permits bytes writes last o → ReturnsOnly CodeEndsSo (pal job permits more last s o)
  pal_only job zero last s o done = done
  pal_only job (suc more) last s o done =
      let moved : AreDoneUntil permits bytes writes (last + 1) (after_writes permits (last + 1) o) = rw add-one (done_more permits bytes writes last o done) in
      only_bind Any CodeEndsSo (turn job s) (followed (last + 1) (after_writes permits (last + 1) o) (λ next. pal job permits more (last + 1) next (after_writes permits (last + 1) o)))
      (only_any (turn job s))
      (λ end any. elim end as (λ e. ReturnsOnly CodeEndsSo (followed (last + 1) (after_writes permits (last + 1) o) (λ next. pal job permits more (last + 1) next (after_writes permits (last + 1) o)) e)) [
        | Next next ↦ pal_only job more (last + 1) next (after_writes permits (last + 1) o) moved
        | Over end outputs kept ↦ moved
      ])

  -- what is outside when the code begins
  abbrev first : Outside
  first = after_writes permits 0 (outside bytes writes)

  abbrev begins : ℕ → State → CodeStart
  begins budget s = record { budget = budget; permits = permits; state = s; outside = first }

  all_first : AreDoneUntil permits bytes writes 0 first
  all_first = done_first permits bytes writes

  sealed_only : (ended : PalEnd) (reply : Result (List ℕ) seals.Refusal) → EndsSo ended → EndsSo (sealed_end ended reply)
  sealed_only ended (Ok blob) so = so
  sealed_only ended (Err refusal) so = so

  seals_only : (end : End) (id : ℕ) (ahead : Bool) (code : CodeEnd) → EndsSo code.ended → ReturnsOnly EndsSo (seals_after end id ahead code)
  seals_only (Done n) id ahead code so = λ reply. sealed_only code.ended reply so
  seals_only (Fault kind) id ahead code so = so
  seals_only Budget id ahead code so = so
  seals_only (Refused why) id ahead code so = so

  runs_with_only : (budget : ℕ) (s : State) (asked : Asked) (kept : List ℕ) (id : ℕ) (ahead : Bool) → ReturnsOnly EndsSo (runs_with (begins budget s) asked kept id ahead)
  runs_with_only budget s asked kept id ahead =
      only_bind CodeEndsSo EndsSo (pal true permits budget 0 (with_kept s asked kept) first) (λ code. seals_after code.ended.end id ahead code)
      (pal_only true budget 0 (with_kept s asked kept) first all_first)
      (λ code so. seals_only code.ended.end id ahead code so)

  born_only : (budget : ℕ) (s : State) (asked : Asked) (reply : Result ℕ creates.Refusal) → ReturnsOnly EndsSo (born (begins budget s) asked reply)
  born_only budget s asked (Ok id) = runs_with_only budget s asked [] id false
  born_only budget s asked (Err refusal) = all_first

  steps_from_only : (budget : ℕ) (s : State) (asked : Asked) (kept : List ℕ) (counter : Option ℕ) → ReturnsOnly EndsSo (steps_from (begins budget s) asked kept counter)
  steps_from_only budget s asked kept (Some id) = runs_with_only budget s asked kept id true
  steps_from_only budget s asked kept None = all_first

  steps_only : (budget : ℕ) (s : State) (asked : Asked) (reply : Result (List ℕ) unseals.Refusal) → ReturnsOnly EndsSo (steps (begins budget s) asked reply)
  steps_only budget s asked (Ok kept) = steps_from_only budget s asked kept (blob_counter asked.blob)
  steps_only budget s asked (Err refusal) = all_first

  committed_only : (reply : Result ℕ increments.Refusal) → EndsSo (committed first reply)
  committed_only (Ok value) = all_first
  committed_only (Err refusal) = all_first

  commits_only : (reply : Result ℕ unseals.Refusal) → ReturnsOnly EndsSo (commits first reply)
  commits_only (Ok id) = λ reply. committed_only reply
  commits_only (Err refusal) = all_first

  probed_only : (counter : Option ℕ) (reply : Result (List ℕ) unseals.Refusal) → EndsSo (probed first counter reply)
  probed_only (Some id) (Ok kept) = all_first
  probed_only None (Ok kept) = all_first
  probed_only (Some id) (Err refusal) = all_first
  probed_only None (Err refusal) = all_first

  in_mode_only : (mode : Mode) (budget : ℕ) (s : State) (asked : Asked) → ReturnsOnly EndsSo (in_mode mode (begins budget s) asked)
  in_mode_only modes.New budget s asked = λ reply. born_only budget s asked reply
  in_mode_only modes.Step budget s asked = λ reply. steps_only budget s asked reply
  in_mode_only modes.Commit budget s asked = λ reply. commits_only reply
  in_mode_only modes.Probe budget s asked = λ reply. probed_only (blob_counter asked.blob) reply

  asked_only : (budget : ℕ) (s : State) (asked : Option Asked) → ReturnsOnly EndsSo (does_asked (begins budget s) asked)
  asked_only budget s None = all_first
  asked_only budget s (Some asked) = in_mode_only asked.mode budget s asked

  runs_only : (job : Bool) (budget : ℕ) (s : State) (inputs : List ℕ) → ReturnsOnly EndsSo (runs job (begins budget s) inputs)
  runs_only true budget s inputs = asked_only budget s (asked_of inputs)
  runs_only false budget s inputs =
      only_bind CodeEndsSo EndsSo (pal false permits budget 0 s first) (λ code. Return code.ended)
      (pal_only false budget 0 s first all_first) (λ code so. so)

  closes_only : (inputs nonce : List ℕ) (ended : PalEnd) → EndsSo ended → ReturnsOnly EndsSo (closes inputs nonce ended)
  closes_only inputs nonce ended so =
      only_bind Any EndsSo (extend_each (closing inputs ended.outputs ended.end nonce)) (λ done. Return ended) (only_any (extend_each (closing inputs ended.outputs ended.end nonce))) (λ x any. so)

pub serving_only : (setting : Setting) (count : ℕ) (nonce : List ℕ) (writes : List Armed) → ReturnsOnly (EndsSo setting.permits setting.bytes writes) (serving setting count nonce writes)
serving_only setting count nonce writes =
    let Fact : PalEnd → Type 0 = EndsSo setting.permits setting.bytes writes in
    only_bind Fact Fact (runs_image (image_of (image_in setting.region)) setting count (first_outside setting writes)) (closes (inputs_in setting count (first_outside setting writes)) nonce)
    (runs_only setting.permits setting.bytes writes (image_of (image_in setting.region)).job (image_of (image_in setting.region)).budget (first_state setting count (first_outside setting writes))
    (inputs_in setting count (first_outside setting writes)))
    (closes_only setting.permits setting.bytes writes (inputs_in setting count (first_outside setting writes)) nonce)

-- ---- bytes that are the same but for a part

-- each permitted write lies in so many bytes
abbrev pub LiesWithin : Permits → ℕ → Type 0
LiesWithin permits size = (at count : ℕ) → 1 ≤ count → permits at count ≡ true → at + count ≤ size

-- an index lies before a part, or after it
abbrev pub IsApart : ℕ → ℕ → ℕ → Type 0
IsApart from to k = (k < from) ⊎ (to ≤ k)

-- so many bytes each, the same but for a part
pub record AreSameApart (size from to : ℕ) (some other : List ℕ) : Type 0 where
  pub some_long : length some ≡ size
  pub other_long : length other ≡ size
  pub same : (k : ℕ) → IsApart from to k → slice_get some k ≡ slice_get other k

-- they are once the same piece was written to both
written_apart : (size from to at : ℕ) (some other piece : List ℕ) → at + length piece ≤ size → AreSameApart size from to some other
    → AreSameApart size from to (written some at piece) (written other at piece)
written_apart size from to at some other piece fits before =
    let some_long = before.some_long in
    let other_long = before.other_long in
    let one = writes-written some at piece (omega arith) in
    let two = writes-written other at piece (omega arith) in
    record {
      some_long = one.long ∙ some_long;
      other_long = two.long ∙ other_long;
      same = λ k apart. elim (cases_lt k at) [
        | inl below ↦ one.below k below ∙ before.same k apart ∙ sym (two.below k below)
        | inr from_there ↦ elim (cases_lt k (at + length piece)) [
          | inl inside ↦ one.inside (k - at) k (omega arith) (omega arith) ∙ sym (two.inside (k - at) k (omega arith) (omega arith))
          | inr above ↦ one.above k above ∙ before.same k apart ∙ sym (two.above k above)
        ]
      ];
    }

permitted_apart : (permits : Permits) (size from to at : ℕ) (some other piece : List ℕ) → LiesWithin permits size → permits at (length piece) ≡ true
    → AreSameApart size from to some other → AreSameApart size from to (written some at piece) (written other at piece)
permitted_apart permits size from to at some other [] within may before = rw (written-nothing some at, written-nothing other at) before
permitted_apart permits size from to at some other (byte ∷ piece) within may before =
    written_apart size from to at some other (byte ∷ piece) (within at (length (byte ∷ piece)) (omega arith) may) before

write_apart : (permits : Permits) (size from to : ℕ) (write : Armed) (some other : List ℕ) → LiesWithin permits size
    → AreSameApart size from to some other → AreSameApart size from to (after_write permits some write) (after_write permits other write)
write_apart permits size from to write some other within before =
    elim (cases_Bool (permits write.at (length write.bytes))) [
      | inl may ↦ rw may (permitted_apart permits size from to write.at some other write.bytes within may before)
      | inr refused ↦ rw refused before
    ]

-- they are after the same device writes
pub each_apart : (permits : Permits) (size from to : ℕ) (writes : List Armed) (some other : List ℕ) → LiesWithin permits size
    → AreSameApart size from to some other → AreSameApart size from to (after_each permits some writes) (after_each permits other writes)
each_apart permits size from to [] some other within before = before
each_apart permits size from to (write ∷ writes) some other within before =
    each_apart permits size from to writes (after_write permits some write) (after_write permits other write) within (write_apart permits size from to write some other within before)

-- what a part is written over is the same but for it
pub over_apart : (size from to : ℕ) (list piece : List ℕ) → length list ≡ size → from + length piece ≡ to → to ≤ size → AreSameApart size from to (written list from piece) list
over_apart size from to list piece long ends fits =
    let w = writes-written list from piece (omega arith) in
    record {
      some_long = w.long ∙ long;
      other_long = long;
      same = λ k apart. elim apart [
        | inl below ↦ w.below k below
        | inr above ↦ w.above k (omega arith)
      ];
    }

-- exclusion bits for each frame of memory permit writes in memory alone
pub bits_within : (excluded : List Bool) (size : ℕ) → size ≡ first_byte (length excluded) → LiesWithin (may_write excluded) size
bits_within excluded size is at count some may =
    elim (cases_lt size (at + count)) [
      | inl past ↦ absurd (both_ways (may_write excluded at count) (may_write-past excluded at count some (omega arith)) may)
      | inr inside ↦ inside
    ]
