-- Calls in parts, one after another.
use Rattle.std.proofs.Common.{◌≡◌, ℕ, List, sym, refl, ap, subst, ◌∙◌, Bool, Result, Ok, Err}
use Rattle.flk_base.specs.Plan.{Plan, Return, Ask, ◌>>=◌}
use Rattle.flk_base.specs.Stop.{Fused}
use Rattle.seal_device.specs.Digests.{DigestDevice}
use Rattle.late_launch.specs.Boards.{BoardParts, fused_device}
use Rattle.slb_core.specs.Pal.{PalEnd}
use Rattle.job_engine.specs.declared.ends.JobEnd.{JobEnd}
use Rattle.job_engine.specs.declared.ends.JobEnd.TheVariants as job_ends
use Rattle.job_engine.specs.declared.parts.Exit.{Exit}
use Rattle.job_engine.specs.declared.parts.Exit.TheVariants as exits
use Rattle.job_store.specs.Commands.{SlotCommand, SlotReply}
use Rattle.job_engine.specs.Calls.{Part, RunSession, Gives, Unbegun, Does, gives, ends_so, rest_of, and_then, asks}
use Rattle.job_engine.specs.Runs.{Ended, With, OutOfMemory, WithoutPower, Machines, PartEnds, Follows, MayEnd}
use Rattle.job_engine.specs.Answers.{is_roomy, with_device, dark_with, exit_answer, Ran, SessionDid, told_end}

module _ {D : Type 0} (May : (c : SlotCommand) → D → D → SlotReply c → Type 0) (roomy : Bool) (image : List ℕ) where
  -- a plan that came to a value, and then the one that this chooses
  pub may_then : {X Y : Type 0} (p : Plan Part Gives X) (f : X → Plan Part Gives Y) (old mid new : Machines D) (x : X) (end : Ended Y)
      → MayEnd May roomy image p old mid (With x) → MayEnd May roomy image (f x) mid new end → MayEnd May roomy image (p >>= f) old new end
  may_then {X} {Y} (Return y) f old mid new x end first rest =
      let same : x ≡ y = (let both : ◌≡◌ {A = Ended X} (With x) (With y) = first.1 in cc) in
      subst (λ (z : X). MayEnd May roomy image (f z) old new end) same
      (subst (λ (m : Machines D). MayEnd May roomy image (f x) m new end) first.0 rest)
  may_then {X} {Y} (Ask part next) f old mid new x end first rest =
      by_first (λ given between follows. may_then (next given) f between mid new x end follows rest) first.0 first.1 first.2 first.3
    where
      by_first : ((given : Gives part) (between : Machines D) → MayEnd May roomy image (next given) between mid (With x) → MayEnd May roomy image (next given >>= f) between new end)
          → (e : Ended (Gives part)) (between : Machines D) → PartEnds May roomy image part old between e
          → Follows May e between mid (With x) (λ given. MayEnd May roomy image (next given) between mid (With x))
          → MayEnd May roomy image (Ask part (λ given. next given >>= f)) old new end
      by_first again (With given) between ended follows = (With given, between, ended, again given between follows)
      by_first again OutOfMemory between ended follows = absurd (let clash : ◌≡◌ {A = Ended X} (With x) OutOfMemory = follows.1 in cc)
      by_first again WithoutPower between ended follows = absurd (let clash : ◌≡◌ {A = Ended X} (With x) WithoutPower = follows.1 in cc)

  -- a plan for which there was no memory
  pub may_want : {X Y : Type 0} (p : Plan Part Gives X) (f : X → Plan Part Gives Y) (old new : Machines D)
      → MayEnd May roomy image p old new OutOfMemory → MayEnd May roomy image (p >>= f) old new OutOfMemory
  may_want {X} (Return y) f old new first = absurd (let clash : ◌≡◌ {A = Ended X} OutOfMemory (With y) = first.1 in cc)
  may_want {X} {Y} (Ask part next) f old new first =
      by_first (λ given between follows. may_want (next given) f between new follows) first.0 first.1 first.2 first.3
    where
      by_first : ((given : Gives part) (between : Machines D) → MayEnd May roomy image (next given) between new OutOfMemory → MayEnd May roomy image (next given >>= f) between new OutOfMemory)
          → (e : Ended (Gives part)) (between : Machines D) → PartEnds May roomy image part old between e
          → Follows May e between new (let end : Ended X = OutOfMemory in end) (λ given. MayEnd May roomy image (next given) between new OutOfMemory)
          → MayEnd May roomy image (Ask part (λ given. next given >>= f)) old new OutOfMemory
      by_first again (With given) between ended follows = (With given, between, ended, again given between follows)
      by_first again OutOfMemory between ended follows = (OutOfMemory, between, ended, (follows.0, refl))
      by_first again WithoutPower between ended follows = absurd (let clash : ◌≡◌ {A = Ended X} OutOfMemory WithoutPower = follows.1 in cc)

  -- and one in which the power was lost
  pub may_lose : {X Y : Type 0} (p : Plan Part Gives X) (f : X → Plan Part Gives Y) (old new : Machines D)
      → MayEnd May roomy image p old new WithoutPower → MayEnd May roomy image (p >>= f) old new WithoutPower
  may_lose {X} (Return y) f old new first = absurd (let clash : ◌≡◌ {A = Ended X} WithoutPower (With y) = first.1 in cc)
  may_lose {X} {Y} (Ask part next) f old new first =
      by_first (λ given between follows. may_lose (next given) f between new follows) first.0 first.1 first.2 first.3
    where
      by_first : ((given : Gives part) (between : Machines D) → MayEnd May roomy image (next given) between new WithoutPower → MayEnd May roomy image (next given >>= f) between new WithoutPower)
          → (e : Ended (Gives part)) (between : Machines D) → PartEnds May roomy image part old between e
          → Follows May e between new (let end : Ended X = WithoutPower in end) (λ given. MayEnd May roomy image (next given) between new WithoutPower)
          → MayEnd May roomy image (Ask part (λ given. next given >>= f)) old new WithoutPower
      by_first again (With given) between ended follows = (With given, between, ended, again given between follows)
      by_first again OutOfMemory between ended follows = absurd (let clash : ◌≡◌ {A = Ended X} WithoutPower OutOfMemory = follows.1 in cc)
      by_first again WithoutPower between ended follows = (WithoutPower, between, ended, (follows.0, refl))

module _ {D : Type 0} (May : (c : SlotCommand) → D → D → SlotReply c → Type 0) (image : List ℕ) where
  pub ran_gives : {X : Type 0} (x : X) (board : BoardParts) (disk : D) → Ran May image (gives x) board disk disk (Ok (board, x))
  ran_gives x board disk = record { device = fused_device board; end = With (Ok x); ends = (refl, refl); answers = refl }

  pub ran_ends : {X : Type 0} (why : JobEnd) (board : BoardParts) (disk : D) → Ran {X = X} May image (ends_so why) board disk disk (Err (exits.Ended board why))
  ran_ends why board disk = record { device = fused_device board; end = With (Err why); ends = (refl, refl); answers = refl }

  -- from another board of the same memory
  moved : {X : Type 0} (board : BoardParts) (device later : Fused DigestDevice) (end : Ended (Result X JobEnd)) → exit_answer (with_device board device) later end ≡ exit_answer board later end
  moved board device later (With (Ok x)) = refl
  moved board device later (With (Err why)) = refl
  moved board device later OutOfMemory = refl
  moved board device later WithoutPower = refl

  -- what came to a value, and then what ended so from there
  pub ran_then : {X Y : Type 0} (p : Does X) (f : X → Does Y) (board here : BoardParts) (old mid new : D) (x : X) (answer : Result (BoardParts × Y) Exit)
      → Ran May image p board old mid (Ok (here, x)) → Ran May image (f x) here mid new answer → Ran May image (and_then p f) board old new answer
  ran_then {X} {Y} p f board here old mid new x answer first rest = by_end first.device first.end first.ends first.answers
    where
      from_here : (device : Fused DigestDevice) → here ≡ with_device board device
          → MayEnd May (is_roomy board.memory.marks) image p (fused_device board, old) (device, mid) (With (Ok x))
          → Ran May image (and_then p f) board old new answer
      from_here device same ends =
          let there = subst (λ (b : BoardParts). Ran May image (f x) b mid new answer) same rest in
          record {
            device = there.device;
            end = there.end;
            ends = may_then May (is_roomy board.memory.marks) image p (rest_of f) (fused_device board, old) (device, mid) (there.device, new) (Ok x) there.end ends there.ends;
            answers = there.answers ∙ moved board device there.device there.end;
          }

      by_end : (device : Fused DigestDevice) (end : Ended (Result X JobEnd)) → MayEnd May (is_roomy board.memory.marks) image p (fused_device board, old) (device, mid) end
          → ◌≡◌ {A = Result (BoardParts × X) Exit} (Ok (here, x)) (exit_answer board device end) → Ran May image (and_then p f) board old new answer
      by_end device (With (Ok y)) ends is =
          let both : ◌≡◌ {A = BoardParts × X} (here, x) (with_device board device, y) = (let oks : ◌≡◌ {A = Result (BoardParts × X) Exit} (Ok (here, x)) (Ok (with_device board device, y)) = is in cc) in
          let values : x ≡ y = ap (λ (b : BoardParts × X). b.1) both in
          from_here device (ap (λ (b : BoardParts × X). b.0) both)
          (subst (λ (z : X). MayEnd May (is_roomy board.memory.marks) image p (fused_device board, old) (device, mid) (With (Ok z))) (sym values) ends)
      by_end device (With (Err why)) ends is = absurd (let clash : ◌≡◌ {A = Result (BoardParts × X) Exit} (Ok (here, x)) (Err (exits.Ended (with_device board device) why)) = is in cc)
      by_end device OutOfMemory ends is = absurd (let clash : ◌≡◌ {A = Result (BoardParts × X) Exit} (Ok (here, x)) (Err (exits.Ended (with_device board device) job_ends.NoMemory)) = is in cc)
      by_end device WithoutPower ends is = absurd (let clash : ◌≡◌ {A = Result (BoardParts × X) Exit} (Ok (here, x)) (Err (exits.Dark (dark_with board device))) = is in cc)

  -- what ended the call, whatever was to follow
  pub ran_exit : {X Y : Type 0} (p : Does X) (f : X → Does Y) (board : BoardParts) (old new : D) (exit : Exit)
      → Ran May image p board old new (Err exit) → Ran May image (and_then p f) board old new (Err exit)
  ran_exit {X} {Y} p f board old new exit first = by_end first.device first.end first.ends first.answers
    where
      at_y : (other : Exit) → ◌≡◌ {A = Result (BoardParts × X) Exit} (Err exit) (Err other) → ◌≡◌ {A = Result (BoardParts × Y) Exit} (Err exit) (Err other)
      at_y other is =
          let same : exit ≡ other = cc in
          ap (λ (e : Exit). let answer : Result (BoardParts × Y) Exit = Err e in answer) same

      by_end : (device : Fused DigestDevice) (end : Ended (Result X JobEnd)) → MayEnd May (is_roomy board.memory.marks) image p (fused_device board, old) (device, new) end
          → ◌≡◌ {A = Result (BoardParts × X) Exit} (Err exit) (exit_answer board device end) → Ran May image (and_then p f) board old new (Err exit)
      by_end device (With (Ok y)) ends is = absurd (let clash : ◌≡◌ {A = Result (BoardParts × X) Exit} (Err exit) (Ok (with_device board device, y)) = is in cc)
      by_end device (With (Err why)) ends is = record {
        device = device;
        end = With (Err why);
        ends = may_then May (is_roomy board.memory.marks) image p (rest_of f) (fused_device board, old) (device, new) (device, new) (Err why) (With (Err why)) ends (refl, refl);
        answers = at_y (exits.Ended (with_device board device) why) is;
      }
      by_end device OutOfMemory ends is = record {
        device = device;
        end = OutOfMemory;
        ends = may_want May (is_roomy board.memory.marks) image p (rest_of f) (fused_device board, old) (device, new) ends;
        answers = at_y (exits.Ended (with_device board device) job_ends.NoMemory) is;
      }
      by_end device WithoutPower ends is = record {
        device = device;
        end = WithoutPower;
        ends = may_lose May (is_roomy board.memory.marks) image p (rest_of f) (fused_device board, old) (device, new) ends;
        answers = at_y (exits.Dark (dark_with board device)) is;
      }

  -- a session, of which this was told
  pub did_ran : {X : Type 0} (told : Result PalEnd Unbegun → Result X JobEnd) (inputs : List ℕ) (board : BoardParts) (disk : D) (answer : Result (BoardParts × X) Exit)
      → SessionDid told image inputs board answer → Ran May image (asks (RunSession inputs) told) board disk disk answer
  did_ran {X} told inputs board disk answer did = record {
    device = did.device;
    end = told_end told did.end;
    ends = (did.end, (did.device, disk), (did.ran.ended, refl), follows did.end);
    answers = did.answers;
  } where
    follows : (end : Ended (Result PalEnd Unbegun))
        → Follows May end (did.device, disk) (did.device, disk) (told_end told end) (λ given. MayEnd May (is_roomy board.memory.marks) image (Return (told given)) (did.device, disk) (did.device, disk) (told_end told end))
    follows (With reply) = (refl, refl)
    follows OutOfMemory = (refl, refl)
    follows WithoutPower = (refl, refl)
