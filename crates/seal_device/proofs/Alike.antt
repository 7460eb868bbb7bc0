-- The homomorphism: on the digests of a device of lists a command does what it does there, and
-- replies the same.
use Rattle.std.proofs.Common.{◌≡◌, ℕ, zero, suc, List, [], ◌∷◌, map, get_or, Bool, false, Option}
use Rattle.std.proofs.Common.{Some, None, refl, sym, ap, ◌∙◌, true, eqb, ltb, length, ◌+◌}
use Rattle.std.specs.Prelude.{Result, Ok, Err, slice_get, if◌then◌else◌}
use Rattle.std.specs.Option.{option_map}
use Rattle.std.proofs.lemmas.Option.{slice_get-map}
use Rattle.std.proofs.lemmas.List.{map-set}
use Rattle.tpm_state.specs.Chain.{Chain, From, ◌▷◌, value}
use Rattle.tpm_state.specs.Counters.{Counter, Counters, counter_at, counter_map, counters_map, create}
use Rattle.tpm_state.specs.CounterLaws.{mapped_at, mapped_create, mapped_read}
use Rattle.tpm_state.specs.Refusals.ReadCounter as reads
use Rattle.seal_device.specs.Keys.{Keys, keys_of}
use Rattle.seal_device.specs.Sealed.{Bearing, longest_sealed}
use Rattle.seal_device.specs.Rules.{launch_start, launch_register}
use Rattle.seal_device.specs.Bearings.{bearing, bearing_at}
use Rattle.seal_device.specs.Drawing.{last_word, random_word}
use Rattle.seal_device.specs.Sealing.{provision, with_keys, present_chain, seal_with, seal_bearing}
use Rattle.seal_device.specs.Sealing.{unless_last}
use Rattle.seal_device.specs.Commands.{Command, Provision, Measure, Extend, ReadRegister, Seal, Unseal}
use Rattle.seal_device.specs.Commands.{CheckNext, Quote, Check, NewCounter, ReadCounter, Increment}
use Rattle.seal_device.specs.Commands.{Random, PowerOn}
use Rattle.seal_device.specs.Commands.{act, compares, extend, with_counters, or_refused}
use Rattle.seal_device.specs.Digests.{DigestDevice, digests}
use Rattle.seal_device.specs.Ledger.{hashed_by, strings_at}
use Rattle.seal_device.specs.Lists.{ListDevice, lists}
use Rattle.seal_device.specs.Agreement.{digested, reply_digested}
use Rattle.seal_device.specs.Refusals.Register as registers
use Rattle.seal_device.specs.Refusals.Seal as seals
use Rattle.seal_device.specs.Refusals.Quote as quotes
use Rattle.seal_device.specs.Refusals.Random as randoms

-- the command does the same on both
abbrev pub Alike : Command → ListDevice → Type 0
Alike c d = act digests c (digested d) ≡ reply_digested (act lists c d)

-- a device by digests with these chains, beside a reply
abbrev beside : {X : Type 0} → ListDevice → X → List (List ℕ) → DigestDevice × X
beside d x chains = (record (digested d) { chains = chains }, x)

measure_alike : (image : List ℕ) (d : ListDevice) → Alike (Measure image) d
measure_alike image d =
    ap (beside d tt) (sym (map-set value d.chains launch_register (From launch_start ▷ image)))

extend_alike : (r : ℕ) (text : List ℕ) (d : ListDevice) → Alike (Extend r text) d
extend_alike r text d = rw (slice_get-map value d.chains r) (by_chain (slice_get d.chains r)) where
  by_chain : (o : Option Chain) →
      extend digests r text (digested d) (option_map value o)
      ≡ reply_digested (extend lists r text d o)
  by_chain None = refl
  by_chain (Some chain) = ap (beside d (Ok tt)) (sym (map-set value d.chains r (chain ▷ text)))

read_alike : (r : ℕ) (d : ListDevice) → Alike (ReadRegister r) d
read_alike r d = rw (slice_get-map value d.chains r) (by_chain (slice_get d.chains r)) where
  by_chain : (o : Option Chain) →
      ◌≡◌ {A = DigestDevice × Result (List ℕ) registers.Refusal}
      (digested d, or_refused registers.NoRegister (λ shown. shown) (option_map value o))
      (digested d, or_refused registers.NoRegister value o)
  by_chain None = refl
  by_chain (Some chain) = refl

provision_alike : (seed : List ℕ) (d : ListDevice) → Alike (Provision seed) d
provision_alike seed d = by_keys d.keys where
  by_keys : (k : Option Keys) →
      provision (keys_of seed) (digested d) k
      ≡ reply_digested (provision (keys_of seed) d k)
  by_keys None = refl
  by_keys (Some keys) = refl

-- what a register shows by digests is the value of its chain, whatever its number is
get_or-map_all : {X Y : Type 0} (f : X → Y) (xs : List X) (i : ℕ) (x : X) →
    get_or (map f xs) i (f x) ≡ f (get_or xs i x)
get_or-map_all f [] i x = refl
get_or-map_all f (y ∷ ys) zero x = refl
get_or-map_all f (y ∷ ys) (suc i) x = get_or-map_all f ys i x

-- register 17 on both
pub present_alike : (d : ListDevice) →
    present_chain digests (digested d) ≡ value (present_chain lists d)
present_alike d = get_or-map_all value d.chains launch_register (From launch_start)

-- a command that uses the keys, where it does the same on both
pub with_keys_alike : {X E : Type 0} (refusal : E) (d : ListDevice)
    (f : Keys → DigestDevice × Result X E) (g : Keys → ListDevice × Result X E)
    (k : Option Keys) →
    ((keys : Keys) → k ≡ Some keys → f keys ≡ reply_digested (g keys)) →
    with_keys refusal (digested d) f k ≡ reply_digested (with_keys refusal d g k)
with_keys_alike refusal d f g None same = refl
with_keys_alike refusal d f g (Some keys) same = same keys refl

-- ---- sealing

-- a record bears the same by other owners
pub bearing_alike : {G H : Type 0} (f : G → H) (c : Counters G) (counter : Option ℕ)
    (ahead : Bool) → bearing (counters_map f c) counter ahead ≡ bearing c counter ahead
bearing_alike f c None ahead = refl
bearing_alike {G} f c (Some id) ahead =
    ap (bearing_at id ahead) (mapped_at f c id) ∙ by_slot ahead (counter_at c id) where
      by_slot : (ahead : Bool) (o : Option (Counter G)) →
          bearing_at id ahead (option_map (counter_map f) o) ≡ bearing_at id ahead o
      by_slot ahead None = refl
      by_slot false (Some counter) = refl
      by_slot true (Some counter) = refl

-- what is sealed bears the same by other owners
seal_bearing_alike : {G H : Type 0} (f : G → H) (serial : ℕ) (c : Counters G) (bytes : List ℕ)
    (counter : Option ℕ) (ahead : Bool) →
    seal_bearing serial (counters_map f c) bytes counter ahead
    ≡ seal_bearing serial c bytes counter ahead
seal_bearing_alike f serial c bytes counter ahead =
    ap (λ (borne : Result (Option Bearing) seals.Refusal).
    if ltb longest_sealed (length bytes) then Err seals.TooLong else unless_last serial borne)
    (bearing_alike f c counter ahead)

seal_alike : (bytes : List ℕ) (counter : Option ℕ) (ahead : Bool) (d : ListDevice) →
    Alike (Seal bytes counter ahead) d
seal_alike bytes counter ahead d =
    with_keys_alike seals.Unprovisioned d _ _ d.keys (λ keys is.
    ap (seal_with digests bytes (digested d) keys)
    (seal_bearing_alike value d.serial d.counters bytes counter ahead)
    ∙ by_borne keys (seal_bearing d.serial d.counters bytes counter ahead)) where
      by_borne : (keys : Keys) (o : Result (Option Bearing) seals.Refusal) →
          seal_with digests bytes (digested d) keys o
          ≡ reply_digested (seal_with lists bytes d keys o)
      by_borne keys (Ok borne) = rw (present_alike d) refl
      by_borne keys (Err refusal) = refl

-- ---- quoting

quote_alike : (nonce : List ℕ) (d : ListDevice) → Alike (Quote nonce) d
quote_alike nonce d =
    with_keys_alike quotes.Unprovisioned d _ _ d.keys (λ keys is. rw (present_alike d) refl)

-- ---- counters and random words

new_counter_alike : (d : ListDevice) → Alike NewCounter d
new_counter_alike d =
    ap (λ (who : List ℕ). with_counters (digested d) (create who (counters_map value d.counters)))
    (present_alike d)
    ∙ ap (with_counters (digested d)) (mapped_create value (present_chain lists d) d.counters)

read_counter_alike : (id : ℕ) (d : ListDevice) → Alike (ReadCounter id) d
read_counter_alike id d =
    ap (λ (reply : Result ℕ reads.Refusal).
    let end : DigestDevice × Result ℕ reads.Refusal = (digested d, reply) in end)
    (mapped_read value id d.counters)

random_alike : (d : ListDevice) → Alike Random d
random_alike d =
    with_keys_alike randoms.Unprovisioned d _ _ d.keys
    (λ keys is. by_last keys (eqb d.drawn last_word)) where
      by_last : (keys : Keys) (last : Bool) →
          ◌≡◌ {A = DigestDevice × Result (List ℕ) randoms.Refusal}
          (if last
          then (digested d, Err randoms.RandomEnd)
          else (record (digested d) { drawn = d.drawn + 1 }, Ok (random_word keys d.drawn)))
          (reply_digested (if last
          then (d, Err randoms.RandomEnd)
          else (record d { drawn = d.drawn + 1 }, Ok (random_word keys d.drawn))))
      by_last keys true = refl
      by_last keys false = refl

-- each command that compares nothing
pub alike : (c : Command) (d : ListDevice) → compares c ≡ false → Alike c d
alike (Provision seed) d nothing = provision_alike seed d
alike (Measure image) d nothing = measure_alike image d
alike (Extend r text) d nothing = extend_alike r text d
alike (ReadRegister r) d nothing = read_alike r d
alike (Seal bytes counter ahead) d nothing = seal_alike bytes counter ahead d
alike (Quote nonce) d nothing = quote_alike nonce d
alike NewCounter d nothing = new_counter_alike d
alike (ReadCounter id) d nothing = read_counter_alike id d
alike Random d nothing = random_alike d
alike PowerOn d nothing = refl
alike (Unseal bytes) d nothing = absurd (cc)
alike (CheckNext bytes) d nothing = absurd (cc)
alike (Check claim bytes) d nothing = absurd (cc)
alike (Increment id) d nothing = absurd (cc)

-- on both a command hashes the same strings
pub hashed_alike : (c : Command) (d : ListDevice) →
    hashed_by digests c (digested d) ≡ hashed_by lists c d
hashed_alike (Extend r text) d =
    rw (slice_get-map value d.chains r) (by_chain (slice_get d.chains r)) where
      by_chain : (o : Option Chain) →
          strings_at digests text (option_map value o) ≡ strings_at lists text o
      by_chain None = refl
      by_chain (Some chain) = refl
hashed_alike c d = refl
