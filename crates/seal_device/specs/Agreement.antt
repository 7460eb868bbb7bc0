-- When a device of lists and one of digests agree.
use Rattle.std.specs.Prelude.{◌≡◌, ◌<◌, ◌^◌, false, List, [], ℕ, map, length, All, Contains}
use Rattle.std.specs.Prelude.{Option, Some, None, slice_index_or}
use Rattle.tpm_state.specs.Chain.{Chain, value}
use Rattle.tpm_state.specs.Counters.{Counter, Counters, counter_at, counters_map}
use Rattle.tpm_state.specs.Counters as counting
use Rattle.flk_base.specs.Plan.{Plan, Throughout, GivesOnly}
use Rattle.flk_base.specs.Stop.{Fused, with_fuse}
use Rattle.seal_device.specs.Keys.{Keys}
use Rattle.seal_device.specs.Sealed.{Sealed, InRange}
use Rattle.seal_device.specs.Quoted.{Quoted, quote_bytes}
use Rattle.seal_device.specs.Commands.{Command, Reply, compares}
use Rattle.seal_device.specs.Digests.{DigestDevice, digests}
use Rattle.seal_device.specs.Ledger.{Ledger, strings, noted, Fair, Unforged}
use Rattle.seal_device.specs.Lists.{ListDevice, blob_of, nothing_made}

-- the device of digests that a device of lists stands for
abbrev pub digested : ListDevice → DigestDevice
digested d = record {
  chains = map value d.chains;
  counters = counters_map value d.counters;
  keys = d.keys;
  serial = d.serial;
  drawn = d.drawn;
  made = tt;
}

-- a device of lists by digests, beside the reply to a command
abbrev pub reply_digested : {X : Type 0} → ListDevice × X → DigestDevice × X
reply_digested end = (digested end.0, end.1)

-- a device of lists by digests, with its fuse
abbrev pub fused_digested : Fused ListDevice → Fused DigestDevice
fused_digested before = with_fuse (digested before.state) before.fuse

-- where a plan ended on a device of lists, by digests
abbrev pub end_digested : {X : Type 0} → Fused ListDevice × X → Fused DigestDevice × X
end_digested end = (fused_digested end.0, end.1)

-- a device of lists knows a string: it was hashed for one of its chains
abbrev pub Knows : ListDevice → List ℕ → Type 0
Knows d text = (chain : Chain) × Contains d.chains chain × Contains (strings chain) text

-- the blobs of records under these keys: none where there are no keys
abbrev pub blobs : Option Keys → List (Sealed Chain) → List (List ℕ)
blobs None made = []
blobs (Some keys) made = map (blob_of keys) made

-- the bytes of quotes under these keys, each beside its nonce: none where there are no keys
abbrev pub given_quotes : Option Keys → List (Quoted Chain) → List (List ℕ × List ℕ)
given_quotes None made = []
given_quotes (Some keys) made = map (λ q. (q.nonce, quote_bytes keys q)) made

-- the strings of a chain are in the ledger
abbrev pub InLedger : Ledger → Chain → Type 0
InLedger ledger chain = All (Contains ledger.hashed) (strings chain)

-- the strings of each counter's owner are in the ledger
abbrev pub OwnersInLedger : Ledger → Counters Chain → Type 0
OwnersInLedger ledger c =
    (id : ℕ) (counter : Counter Chain) → counter_at c id ≡ Some counter →
    InLedger ledger counter.owner

-- each record has a lower serial than those that were sealed after it
abbrev pub SerialsRise : List (Sealed Chain) → Type 0
SerialsRise made =
    (i j : ℕ) (r : Sealed Chain) → i < j → j < length made →
    (slice_index_or made i r).serial < (slice_index_or made j r).serial

-- the ledger has what a device of lists knows: the strings of each of its chains, counters' owners,
-- records and quotes, the blobs of the records in their order, and the quotes in theirs. Without keys
-- there is no record and no quote; the numbers of counters and records are in their ranges, and
-- serials rise, up to the next one
pub record Noted (d : ListDevice) (ledger : Ledger) : Type 0 where
  pub chains : All (InLedger ledger) d.chains
  pub owners : OwnersInLedger ledger d.counters
  pub counters : counting.InRange d.counters
  pub records : All (λ r. InLedger ledger r.chain) d.made.records
  pub quotes : All (λ q. InLedger ledger q.chain) d.made.quotes
  pub made : blobs d.keys d.made.records ≡ ledger.made
  pub quoted : given_quotes d.keys d.made.quotes ≡ ledger.quoted
  pub no_keys : d.keys ≡ None → d.made ≡ nothing_made
  pub in_range : All InRange d.made.records
  pub serials : All (λ r. r.serial < d.serial) d.made.records
  pub rise : SerialsRise d.made.records
  pub next : d.serial < 2 ^ 64

-- a device of lists stands for one of digests, and they have one ledger, with all that the first
-- knows
pub record Agrees (w : ListDevice × Ledger) (v : DigestDevice × Ledger) : Type 0 where
  pub device : digested w.0 ≡ v.0
  pub ledger : w.1 ≡ v.1
  pub known : Noted w.0 w.1

-- the two agree so, and as much is left of their fuses
pub record FusedAgree (a : Fused (ListDevice × Ledger)) (b : Fused (DigestDevice × Ledger)) : Type 0
  where
    pub state : Agrees a.state b.state
    pub fuse : a.fuse ≡ b.fuse

-- a plan is fair from here on: each command that it gives is fair where it is given
abbrev pub FairPlan : {X : Type 0} → Plan Command Reply X → DigestDevice × Ledger → Type 0
FairPlan plan v = Throughout (noted digests) (Fair digests) plan v

-- no blob is forged that the plan shows from here on
abbrev pub UnforgedPlan : {X : Type 0} → Plan Command Reply X → DigestDevice × Ledger → Type 0
UnforgedPlan plan v = Throughout (noted digests) Unforged plan v

-- no command of the plan compares
abbrev pub ComparesNothing : {X : Type 0} → Plan Command Reply X → Type 0
ComparesNothing plan = GivesOnly (λ c. compares c ≡ false) plan
