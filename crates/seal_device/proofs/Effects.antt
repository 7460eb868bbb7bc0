-- What any command leaves of a device, by cases of what it changes, by any rules.
use Rattle.std.proofs.Common.{◌≡◌, ◌≢◌, ℕ, ◌+◌, Bool, true, false, eqb, List, Option, Some, None}
use Rattle.std.proofs.Common.{Result, Ok, Err, refl}
use Rattle.std.specs.Prelude.{slice_get, if◌then◌else◌}
use Rattle.std.proofs.lemmas.Bool.{eqb-false}
use Rattle.tpm_state.specs.Counters.{Counters, create, increment}
use Rattle.seal_device.specs.Keys.{Keys, keys_of}
use Rattle.seal_device.specs.Sealed.{Bearing}
use Rattle.seal_device.specs.Rules.{Device, Rules}
use Rattle.seal_device.specs.Drawing.{draw, last_word, random_word}
use Rattle.seal_device.specs.Sealing.{provision, with_keys, present_chain, seal_bearing, seal_with}
use Rattle.seal_device.specs.Sealing.{new_record, with_record, seal, unseal, check_next}
use Rattle.seal_device.specs.Quoting.{new_quote, with_quote, quote, check}
use Rattle.seal_device.specs.Commands.{Command, Provision, Measure, Extend, ReadRegister, Seal, Unseal}
use Rattle.seal_device.specs.Commands.{CheckNext, Quote, Check, NewCounter, ReadCounter, Increment}
use Rattle.seal_device.specs.Commands.{Random, PowerOn}
use Rattle.seal_device.specs.Commands.{act, extend, with_chain, with_image, first_chains}
use Rattle.seal_device.specs.Refusals.Seal as seals
use Rattle.seal_device.specs.Refusals.Unseal as unseals
use Rattle.seal_device.specs.Refusals.Quote as quotes
use Rattle.seal_device.specs.Refusals.Random as randoms

-- the device after a command has this, whatever the command changes of it
pub record AfterEach {H M : Type 0} (R : Rules H M) (c : Command) (d : Device H M)
    (P : Device H M → Type 0) : Type 0
  where
    pub nothing : P d
    pub seeded : (keys : Keys) → d.keys ≡ None → P (record d { keys = Some keys })
    pub measured : (image : List ℕ) → P (with_image R image d)
    pub extended : (r : ℕ) (text : List ℕ) (chain : H) → slice_get d.chains r ≡ Some chain →
        P (with_chain d r (R.extended chain text))
    pub sealed : (bytes : List ℕ) (counter : Option ℕ) (ahead : Bool) (borne : Option Bearing) →
        c ≡ Seal bytes counter ahead → seal_bearing d.serial d.counters bytes counter ahead ≡ Ok borne →
        P (with_record R (new_record R bytes borne d) d)
    pub quoted : (nonce : List ℕ) → c ≡ Quote nonce → P (with_quote R (new_quote R nonce d) d)
    pub created : c ≡ NewCounter →
        P (record d { counters = (create (present_chain R d) d.counters).0 })
    pub incremented : (id : ℕ) → c ≡ Increment id →
        P (record d { counters = (increment R.same id (present_chain R d) d.counters).0 })
    pub drawn : c ≡ Random → d.drawn ≢ last_word → P (record d { drawn = d.drawn + 1 })
    pub powered : P (record d { chains = first_chains R })

-- a command that uses the keys, where it leaves what was or is given them
with_keys_ends : {H M X E : Type 0} (P : Device H M → Type 0) (refusal : E) (d : Device H M)
    (f : Keys → Device H M × Result X E) (k : Option Keys) → P d →
    ((keys : Keys) → P (f keys).0) → P (with_keys refusal d f k).0
with_keys_ends P refusal d f None same done = same
with_keys_ends P refusal d f (Some keys) same done = done keys

-- so it has it
pub after_each : {H M : Type 0} (R : Rules H M) (c : Command) (d : Device H M)
    (P : Device H M → Type 0) → AfterEach R c d P → P (act R c d).0
after_each R (Provision seed) d P each = by_keys d.keys refl where
  by_keys : (k : Option Keys) → d.keys ≡ k → P (provision (keys_of seed) d k).0
  by_keys None is = each.seeded (keys_of seed) is
  by_keys (Some others) is = each.nothing
after_each R (Measure image) d P each = each.measured image
after_each {H} R (Extend r text) d P each = by_chain (slice_get d.chains r) refl where
  by_chain : (o : Option H) → slice_get d.chains r ≡ o → P (extend R r text d o).0
  by_chain None is = each.nothing
  by_chain (Some chain) is = each.extended r text chain is
after_each R (ReadRegister r) d P each = each.nothing
after_each R (Seal bytes counter ahead) d P each =
    with_keys_ends P seals.Unprovisioned d (seal R bytes counter ahead d) d.keys each.nothing
    (λ keys. by_borne keys (seal_bearing d.serial d.counters bytes counter ahead) refl) where
      by_borne : (keys : Keys) (o : Result (Option Bearing) seals.Refusal) →
          seal_bearing d.serial d.counters bytes counter ahead ≡ o →
          P (seal_with R bytes d keys o).0
      by_borne keys (Ok borne) is = each.sealed bytes counter ahead borne refl is
      by_borne keys (Err refusal) is = each.nothing
after_each R (Unseal bytes) d P each =
    with_keys_ends P unseals.Unprovisioned d (unseal R bytes d) d.keys each.nothing
    (λ keys. each.nothing)
after_each R (CheckNext bytes) d P each =
    with_keys_ends P unseals.Unprovisioned d (check_next R bytes d) d.keys each.nothing
    (λ keys. each.nothing)
after_each R (Quote nonce) d P each =
    with_keys_ends P quotes.Unprovisioned d (quote R nonce d) d.keys each.nothing
    (λ keys. each.quoted nonce refl)
after_each R (Check claim bytes) d P each =
    with_keys_ends P quotes.Unprovisioned d (check R claim bytes d) d.keys each.nothing
    (λ keys. each.nothing)
after_each R NewCounter d P each = each.created refl
after_each R (ReadCounter id) d P each = each.nothing
after_each R (Increment id) d P each = each.incremented id refl
after_each {H} {M} R Random d P each =
    with_keys_ends P randoms.Unprovisioned d (draw d) d.keys each.nothing
    (λ keys. by_last keys (eqb d.drawn last_word) refl) where
      by_last : (keys : Keys) (last : Bool) → eqb d.drawn last_word ≡ last →
          P ((let end : Device H M × Result (List ℕ) randoms.Refusal = if last
          then (d, Err randoms.RandomEnd)
          else (record d { drawn = d.drawn + 1 }, Ok (random_word keys d.drawn)) in end).0)
      by_last keys true is = each.nothing
      by_last keys false is = each.drawn refl (eqb-false d.drawn last_word is)
after_each R PowerOn d P each = each.powered

-- what is said of the counters alone needs only what creations and increments do
pub counters_after : {H M : Type 0} (R : Rules H M) (c : Command) (d : Device H M)
    (P : Counters H → Type 0) → P d.counters →
    (c ≡ NewCounter → P (create (present_chain R d) d.counters).0) →
    ((id : ℕ) → c ≡ Increment id → P (increment R.same id (present_chain R d) d.counters).0) →
    P (act R c d).0.counters
counters_after {H} {M} R c d P nothing created incremented =
    after_each R c d (λ (e : Device H M). P e.counters) (record {
      nothing = nothing;
      seeded = λ keys none. nothing;
      measured = λ image. nothing;
      extended = λ r text chain there. nothing;
      sealed = λ bytes counter ahead borne one ok. nothing;
      quoted = λ nonce one. nothing;
      created = created;
      incremented = incremented;
      drawn = λ one less. nothing;
      powered = nothing;
    })
