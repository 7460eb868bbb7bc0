-- Commands to slots, by what the calls on slots ensure.
use Rattle.std.proofs.Common.{◌≡◌, ◌<◌, ◌≤◌, ◌+◌, ℕ, List, length, refl, sym, ap, subst, ◌∙◌, arith, length-append, Bool, true, false, Option, Some, Result, Ok, Err}
use Rattle.byteorder.specs.Endian.{big_bytes}
use Rattle.flk_base.specs.Causes.{Rose}
use Rattle.flk_base.specs.Stop.{Limit, spent, with_fuse}
use Rattle.late_launch.specs.Boards.{BoardParts, DarkParts, fused_device, fallen}
use Rattle.job_store.specs.declared.sizes.TheConstants.{SLOT_LEN, DISK_LEN}
use Rattle.job_store.specs.Contents.{Contents, IsTorn, after_sync}
use Rattle.job_store.specs.Calls.{Call, Read, Sync}
use Rattle.job_store.specs.Slots.{slot_at, stored, entry, slot_write, with_blob}
use Rattle.job_engine.specs.declared.ends.JobEnd.{JobEnd}
use Rattle.job_engine.specs.declared.ends.JobEnd.TheVariants as ends
use Rattle.job_engine.specs.declared.parts.Exit.{Exit}
use Rattle.job_engine.specs.declared.parts.Exit.TheVariants as exits
use Rattle.job_store.specs.Commands.{SlotCommand, ReadSlot, WriteSlot, SyncSlots, SlotReply, MayReply, reply_of}
use Rattle.job_engine.specs.Calls.{OnSlots, asks, reads, writes, syncs}
use Rattle.job_engine.specs.Runs.{With, WithoutPower, TakesStep, HasNoStep}
use Rattle.job_engine.specs.Answers.{dark_with, exit_answer, Ran}

module _ {D : Type 0} (May : (c : SlotCommand) → D → D → SlotReply c → Type 0) (image : List ℕ) where
  -- a command that took its step
  slot_step : {X : Type 0} (c : SlotCommand) (told : SlotReply c → Result X JobEnd) (board : BoardParts) (left : Limit) (old new : D) (reply : SlotReply c) (answer : Result (BoardParts × X) Exit)
      → spent true board.fuse ≡ Some left → May c old new reply → answer ≡ exit_answer board (with_fuse board.device left) (With (told reply))
      → Ran May image (asks (OnSlots c) told) board old new answer
  slot_step c told board left old new reply answer step may is = record {
    device = with_fuse board.device left;
    end = With (told reply);
    ends = (With reply, (with_fuse board.device left, new), TakesStep left step refl reply may refl, (refl, refl));
    answers = is;
  }

  -- and one that had none
  slot_dark : {X : Type 0} (c : SlotCommand) (told : SlotReply c → Result X JobEnd) (board : BoardParts) (old new : D)
      → board.fuse ≡ Some 0 → new ≡ old → Ran {X = X} May image (asks (OnSlots c) told) board old new (Err (exits.Dark (dark_with board (fused_device board))))
  slot_dark c told board old new nothing same = record {
    device = fused_device board;
    end = WithoutPower;
    ends = (WithoutPower, (fused_device board, new), HasNoStep nothing (ap (λ (d : D). (fused_device board, d)) same) refl, (refl, refl));
    answers = refl;
  }

-- a slot lies on the disk
slot_there : (j s count : ℕ) → j < 8 → s < 2 → count ≤ 4096 → slot_at j s + count ≤ DISK_LEN
slot_there j s count job slot few = omega arith

entry_there : (j s : ℕ) (blob : List ℕ) → j < 8 → s < 2 → length blob ≤ 4094 → slot_at j s + length (entry blob) ≤ DISK_LEN
entry_there j s blob job slot short =
    let long : length (entry blob) ≡ length blob + 2 = omega (arith, length-append (big_bytes 2 (length blob)) blob) in
    slot_there j s (length (entry blob)) job slot (omega arith)

module _ {D : Type 0} (contents : D → Contents) (faults : D → ℕ) (gives : D → Call → Bool → D → Type 0) (image : List ℕ) (board here : BoardParts) (fuse left : Limit) (old new : D)
    (viewed : board.fuse ≡ fuse) (left_so : here ≡ record board { fuse = left }) where
  -- the step, of the board's fuse
  step_of : spent true fuse ≡ Some left → spent true board.fuse ≡ Some left
  step_of step = rw viewed step

  pub read_done : (j s : ℕ) (found : Option (List ℕ)) → j < 8 → s < 2 → spent true fuse ≡ Some left → gives old (Read (slot_at j s) SLOT_LEN) true new → faults new ≡ faults old
      → stored j s (contents old) ≡ found → contents new ≡ contents old
      → Ran (MayReply contents faults gives) image (reads j s) board old new (Ok (here, found))
  read_done j s found job slot step known cause is same =
      slot_step (MayReply contents faults gives) image (ReadSlot j s) _ board left old new (reply_of (ReadSlot j s) true (contents old)) _ (step_of step)
      (record { done = true; called = record { follows = (slot_there j s SLOT_LEN job slot (omega arith), same); cause = cause; known = known }; replied = refl })
      (ap (λ (f : Option (List ℕ)). let answer : Result (BoardParts × Option (List ℕ)) Exit = Ok (here, f) in answer) (sym is)
      ∙ ap (λ (b : BoardParts). let answer : Result (BoardParts × Option (List ℕ)) Exit = Ok (b, stored j s (contents old)) in answer) left_so)

  pub read_failed : (j s : ℕ) → j < 8 → s < 2 → spent true fuse ≡ Some left → gives old (Read (slot_at j s) SLOT_LEN) false new → (faults old ≤ faults new) × Rose (faults old) (faults new)
      → contents new ≡ contents old
      → Ran (MayReply contents faults gives) image (reads j s) board old new (Err (exits.Ended here ends.DiskFault))
  read_failed j s job slot step known cause same =
      slot_step (MayReply contents faults gives) image (ReadSlot j s) _ board left old new (reply_of (ReadSlot j s) false (contents old)) _ (step_of step)
      (record { done = false; called = record { follows = (slot_there j s SLOT_LEN job slot (omega arith), same); cause = cause; known = known }; replied = refl })
      (ap (λ (b : BoardParts). let answer : Result (BoardParts × Option (List ℕ)) Exit = Err (exits.Ended b ends.DiskFault) in answer) left_so)

  pub write_done : (j s : ℕ) (blob : List ℕ) → j < 8 → s < 2 → length blob ≤ 4094 → spent true fuse ≡ Some left → gives old (slot_write j s blob) true new → faults new ≡ faults old
      → contents new ≡ with_blob j s blob (contents old)
      → Ran (MayReply contents faults gives) image (writes j s blob) board old new (Ok (here, tt))
  write_done j s blob job slot short step known cause same =
      slot_step (MayReply contents faults gives) image (WriteSlot j s blob) _ board left old new (reply_of (WriteSlot j s blob) true (contents old)) _ (step_of step)
      (record { done = true; called = record { follows = (entry_there j s blob job slot short, same); cause = cause; known = known }; replied = refl })
      (ap (λ (b : BoardParts). let answer : Result (BoardParts × Unit {0}) Exit = Ok (b, tt) in answer) left_so)

  pub write_failed : (j s : ℕ) (blob : List ℕ) → j < 8 → s < 2 → length blob ≤ 4094 → spent true fuse ≡ Some left → gives old (slot_write j s blob) false new → (faults old ≤ faults new) × Rose (faults old) (faults new)
      → IsTorn (slot_at j s) (length blob + 2) (contents old) (contents new)
      → Ran (MayReply contents faults gives) image (writes j s blob) board old new (Err (exits.Ended here ends.DiskFault))
  write_failed j s blob job slot short step known cause torn =
      let long : length (entry blob) ≡ length blob + 2 = omega (arith, length-append (big_bytes 2 (length blob)) blob) in
      slot_step (MayReply contents faults gives) image (WriteSlot j s blob) _ board left old new (reply_of (WriteSlot j s blob) false (contents old)) _ (step_of step)
      (record { done = false; called = record { follows = (entry_there j s blob job slot short, rw long torn); cause = cause; known = known }; replied = refl })
      (ap (λ (b : BoardParts). let answer : Result (BoardParts × Unit {0}) Exit = Err (exits.Ended b ends.DiskFault) in answer) left_so)

  pub sync_done : spent true fuse ≡ Some left → gives old Sync true new → faults new ≡ faults old → contents new ≡ after_sync (contents old)
      → Ran (MayReply contents faults gives) image syncs board old new (Ok (here, tt))
  sync_done step known cause same =
      slot_step (MayReply contents faults gives) image SyncSlots _ board left old new (reply_of SyncSlots true (contents old)) _ (step_of step)
      (record { done = true; called = record { follows = (tt, same); cause = cause; known = known }; replied = refl })
      (ap (λ (b : BoardParts). let answer : Result (BoardParts × Unit {0}) Exit = Ok (b, tt) in answer) left_so)

  pub sync_failed : spent true fuse ≡ Some left → gives old Sync false new → (faults old ≤ faults new) × Rose (faults old) (faults new) → contents new ≡ contents old
      → Ran (MayReply contents faults gives) image syncs board old new (Err (exits.Ended here ends.DiskFault))
  sync_failed step known cause same =
      slot_step (MayReply contents faults gives) image SyncSlots _ board left old new (reply_of SyncSlots false (contents old)) _ (step_of step)
      (record { done = false; called = record { follows = (tt, same); cause = cause; known = known }; replied = refl })
      (ap (λ (b : BoardParts). let answer : Result (BoardParts × Unit {0}) Exit = Err (exits.Ended b ends.DiskFault) in answer) left_so)

  pub slots_dark : {X : Type 0} (c : SlotCommand) (told : SlotReply c → Result X JobEnd) (dark : DarkParts) → fuse ≡ Some 0 → new ≡ old → dark ≡ fallen here
      → Ran {X = X} (MayReply contents faults gives) image (asks (OnSlots c) told) board old new (Err (exits.Dark dark))
  slots_dark {X} c told dark nothing same is =
      let fell : dark ≡ dark_with board (fused_device board) = is ∙ ap fallen left_so in
      subst (λ (d : DarkParts). Ran {X = X} (MayReply contents faults gives) image (asks (OnSlots c) told) board old new (Err (exits.Dark d))) (sym fell)
      (slot_dark (MayReply contents faults gives) image c told board old new (viewed ∙ nothing) same)
