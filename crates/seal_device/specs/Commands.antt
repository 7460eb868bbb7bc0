-- The commands of a device and what each does, by the rules of any platform.
use Rattle.std.specs.Prelude.{ℕ, List, map, Bool, true, false, Option, Some, None, Result, Ok, Err}
use Rattle.std.specs.Prelude.{slice_get, slice_set}
use Rattle.tpm_state.specs.Chain.{Chain, power_start, register_numbers}
use Rattle.tpm_state.specs.Counters.{Counters, no_counters, create, read, increment}
use Rattle.tpm_state.specs.Refusals.Create as creates
use Rattle.tpm_state.specs.Refusals.ReadCounter as reads
use Rattle.tpm_state.specs.Refusals.Increment as increments
use Rattle.seal_device.specs.Keys.{keys_of}
use Rattle.seal_device.specs.Quoted.{Quoted}
use Rattle.seal_device.specs.Rules.{Device, Rules}
pub use Rattle.seal_device.specs.Rules.{launch_register, launch_start}
use Rattle.seal_device.specs.Sealing.{provision, with_keys, present_chain, seal, unseal, check_next}
use Rattle.seal_device.specs.Quoting.{quote, check}
use Rattle.seal_device.specs.Drawing.{draw}
use Rattle.seal_device.specs.Refusals.Register as registers
use Rattle.seal_device.specs.Refusals.Seed as seeds
use Rattle.seal_device.specs.Refusals.Seal as seals
use Rattle.seal_device.specs.Refusals.Unseal as unseals
use Rattle.seal_device.specs.Refusals.Quote as quotes
use Rattle.seal_device.specs.Refusals.Random as randoms

-- a command to a device: take a seed, measure an image, extend a register by a text, read a
-- register; seal bytes (by a counter, and for its next value, where that is asked), unseal a blob,
-- try it for the next value of its counter; quote register 17 for a nonce, and check whether bytes
-- are the quote that they are claimed to be; create a counter, read it, increment it; draw a random
-- word; and power-on
pub data Command : Type 0 where
  Provision : (seed : List ℕ) → Command
  Measure : (image : List ℕ) → Command
  Extend : (r : ℕ) (text : List ℕ) → Command
  ReadRegister : (r : ℕ) → Command
  Seal : (bytes : List ℕ) (counter : Option ℕ) (ahead : Bool) → Command
  Unseal : (bytes : List ℕ) → Command
  CheckNext : (bytes : List ℕ) → Command
  Quote : (nonce : List ℕ) → Command
  Check : (claim : Quoted Chain) (bytes : List ℕ) → Command
  NewCounter : Command
  ReadCounter : (id : ℕ) → Command
  Increment : (id : ℕ) → Command
  Random : Command
  PowerOn : Command

-- the commands that take a step of the fuse: all but power-on, the taking of a seed, and the check of
-- a quote
abbrev pub costs : Command → Bool
costs PowerOn = false
costs (Provision seed) = false
costs (Check claim bytes) = false
costs _ = true

-- the commands that compare digests or tags
abbrev pub compares : Command → Bool
compares (Unseal bytes) = true
compares (CheckNext bytes) = true
compares (Check claim bytes) = true
compares (Increment id) = true
compares _ = false

-- the reply to a command, where the power is there
abbrev pub Reply : Command → Type 0
Reply (Provision seed) = Result (Unit {0}) seeds.Refusal
Reply (Measure image) = Unit {0}
Reply (Extend r text) = Result (Unit {0}) registers.Refusal
Reply (ReadRegister r) = Result (List ℕ) registers.Refusal
Reply (Seal bytes counter ahead) = Result (List ℕ) seals.Refusal
Reply (Unseal bytes) = Result (List ℕ) unseals.Refusal
Reply (CheckNext bytes) = Result ℕ unseals.Refusal
Reply (Quote nonce) = Result (List ℕ) quotes.Refusal
Reply (Check claim bytes) = Result Bool quotes.Refusal
Reply NewCounter = Result ℕ creates.Refusal
Reply (ReadCounter id) = Result ℕ reads.Refusal
Reply (Increment id) = Result ℕ increments.Refusal
Reply Random = Result (List ℕ) randoms.Refusal
Reply PowerOn = Unit {0}

-- the chains at power-on
abbrev pub first_chains : {H M : Type 0} → Rules H M → List H
first_chains R = map (λ r. R.start (power_start r)) register_numbers

-- the device with this chain in register r
abbrev pub with_chain : {H M : Type 0} → Device H M → ℕ → H → Device H M
with_chain d r chain = record d { chains = slice_set d.chains r chain }

-- a launched image: register 17 starts anew, and is extended by the image (SKINIT)
abbrev pub with_image : {H M : Type 0} → Rules H M → List ℕ → Device H M → Device H M
with_image R image d = with_chain d launch_register (R.extended (R.start launch_start) image)

-- register r extended by a text, where it has a chain (TPM 1.2, part 3, TPM_Extend)
abbrev pub extend : {H M : Type 0} → Rules H M → ℕ → List ℕ → Device H M → Option H →
    Device H M × Result (Unit {0}) registers.Refusal
extend R r text d None = (d, Err registers.NoRegister)
extend R r text d (Some chain) = (with_chain d r (R.extended chain text), Ok tt)

-- a device with what became of its counters, beside the reply
abbrev pub with_counters : {H M X : Type 0} → Device H M → Counters H × X → Device H M × X
with_counters d end = (record d { counters = end.0 }, end.1)

-- what is shown of something, where it is there, and else this refusal
abbrev pub or_refused : {A X E : Type 0} → E → (A → X) → Option A → Result X E
or_refused refusal show None = Err refusal
or_refused refusal show (Some a) = Ok (show a)

-- what a command does to a device, and its reply
abbrev pub act : {H M : Type 0} → Rules H M → (c : Command) → Device H M → Device H M × Reply c
act R (Provision seed) d = provision (keys_of seed) d d.keys
act R (Measure image) d = (with_image R image d, tt)
act R (Extend r text) d = extend R r text d (slice_get d.chains r)
act R (ReadRegister r) d = (d, or_refused registers.NoRegister R.shown (slice_get d.chains r))
act R (Seal bytes counter ahead) d =
    with_keys seals.Unprovisioned d (seal R bytes counter ahead d) d.keys
act R (Unseal bytes) d = with_keys unseals.Unprovisioned d (unseal R bytes d) d.keys
act R (CheckNext bytes) d = with_keys unseals.Unprovisioned d (check_next R bytes d) d.keys
act R (Quote nonce) d = with_keys quotes.Unprovisioned d (quote R nonce d) d.keys
act R (Check claim bytes) d = with_keys quotes.Unprovisioned d (check R claim bytes d) d.keys
act R NewCounter d = with_counters d (create (present_chain R d) d.counters)
act R (ReadCounter id) d = (d, read id d.counters)
act R (Increment id) d =
    with_counters d (increment R.same id (present_chain R d) d.counters)
act R Random d = with_keys randoms.Unprovisioned d (draw d) d.keys
act R PowerOn d = (record d { chains = first_chains R }, tt)

-- a device that was never used
abbrev pub blank : {H M : Type 0} → Rules H M → Device H M
blank R = record {
  chains = first_chains R;
  counters = no_counters;
  keys = None;
  serial = 0;
  drawn = 0;
  made = R.nothing_made;
}
