-- Seeding, sealing and unsealing, by the rules of any platform.
use Rattle.std.specs.Prelude.{ℕ, ◌+◌, ◌-◌, ◌^◌, Bool, ◌==◌, nat_lt, List, length}
use Rattle.std.specs.Prelude.{slice_index_or, Option, Some, None, Result, Ok, Err, if◌then◌else◌}
use Rattle.std.specs.Option.{ok_or}
use Rattle.tpm_state.specs.Counters.{Counters}
use Rattle.seal_device.specs.Keys.{Keys}
use Rattle.seal_device.specs.Sealed.{Bearing, Sealed, with_chain_by, longest_sealed}
use Rattle.seal_device.specs.Blobs.{blob}
use Rattle.seal_device.specs.Rules.{Device, Rules, launch_register, launch_start}
use Rattle.seal_device.specs.Bearings.{bearing, content, awaited}
use Rattle.seal_device.specs.Refusals.Seed as seeds
use Rattle.seal_device.specs.Refusals.Seal as seals
use Rattle.seal_device.specs.Refusals.Unseal as unseals

-- the keys of a seed come to a device that has none
abbrev pub provision : {H M : Type 0} → Keys → Device H M → Option Keys →
    Device H M × Result (Unit {0}) seeds.Refusal
provision keys d None = (record d { keys = Some keys }, Ok tt)
provision keys d (Some others) = (d, Err seeds.Provisioned)

-- what a command comes to that uses the keys, where there are some, and else this refusal
abbrev pub with_keys : {H M X E : Type 0} → E → Device H M → (Keys → Device H M × Result X E) →
    Option Keys → Device H M × Result X E
with_keys refusal d f None = (d, Err refusal)
with_keys refusal d f (Some keys) = f keys

-- register 17's chain
abbrev pub present_chain : {H M : Type 0} → Rules H M → Device H M → H
present_chain R d = slice_index_or d.chains launch_register (R.start launch_start)

-- ---- sealing

-- the serial that no record gets: the last one
abbrev pub last_serial : ℕ
last_serial = 2 ^ 64 - 1

-- what is borne under this serial, where it is not the last one
abbrev pub unless_last : ℕ → Result (Option Bearing) seals.Refusal →
    Result (Option Bearing) seals.Refusal
unless_last serial (Err refusal) = Err refusal
unless_last serial (Ok borne) = if serial == last_serial then Err seals.SerialEnd else Ok borne

-- what the record of bytes bears that are sealed now, or the first reason why they are not sealed
abbrev pub seal_bearing : {H : Type 0} → ℕ → Counters H → List ℕ → Option ℕ → Bool →
    Result (Option Bearing) seals.Refusal
seal_bearing serial c bytes counter ahead =
    if nat_lt longest_sealed (length bytes)
    then Err seals.TooLong
    else unless_last serial (bearing c counter ahead)

-- the record of bytes that are sealed now, with what it bears
abbrev pub new_record : {H M : Type 0} → Rules H M → List ℕ → Option Bearing → Device H M → Sealed H
new_record R bytes borne d =
    record { serial = d.serial; chain = present_chain R d; counter = borne; bytes = bytes }

-- the device once a record was sealed
abbrev pub with_record : {H M : Type 0} → Rules H M → Sealed H → Device H M → Device H M
with_record R r d = record d { serial = d.serial + 1; made = R.remembered r d.made }

-- bytes are sealed with what their record bears, or refused where there is a reason
abbrev pub seal_with : {H M : Type 0} → Rules H M → List ℕ → Device H M → Keys →
    Result (Option Bearing) seals.Refusal → Device H M × Result (List ℕ) seals.Refusal
seal_with R bytes d keys (Err refusal) = (d, Err refusal)
seal_with R bytes d keys (Ok borne) = (
  with_record R (new_record R bytes borne d) d,
  Ok (blob keys (with_chain_by R.shown (new_record R bytes borne d))),
)

-- bytes are sealed, under the next serial, in register 17's chain, and by a counter where one is
-- asked for
abbrev pub seal : {H M : Type 0} → Rules H M → List ℕ → Option ℕ → Bool → Device H M → Keys →
    Device H M × Result (List ℕ) seals.Refusal
seal R bytes counter ahead d keys =
    seal_with R bytes d keys (seal_bearing d.serial d.counters bytes counter ahead)

-- ---- unsealing

-- a record gives what is found in it, in its chain, and else says why not
abbrev pub open_record : {H M X : Type 0} → Rules H M → Device H M → (Sealed H → Option X) →
    Sealed H → Result X unseals.Refusal
open_record R d found r =
    if R.same r.chain (present_chain R d)
    then ok_or (found r) unseals.WrongCounter
    else Err unseals.WrongChain

-- so does the record whose blob was shown, if there is one
abbrev pub open_blob : {H M X : Type 0} → Rules H M → Device H M → (Sealed H → Option X) →
    Option (Sealed H) → Result X unseals.Refusal
open_blob R d found None = Err unseals.NotBlob
open_blob R d found (Some r) = open_record R d found r

-- bytes are unsealed, where the counter that their record bears has its value: it changes nothing
abbrev pub unseal : {H M : Type 0} → Rules H M → List ℕ → Device H M → Keys →
    Device H M × Result (List ℕ) unseals.Refusal
unseal R bytes d keys = (d, open_blob R d (content d.counters) (R.opened keys d.made bytes))

-- bytes are tried for the next value of the counter that their record bears, whose number is
-- answered: it changes nothing
abbrev pub check_next : {H M : Type 0} → Rules H M → List ℕ → Device H M → Keys →
    Device H M × Result ℕ unseals.Refusal
check_next R bytes d keys =
    (d, open_blob R d (λ r. awaited d.counters r.counter) (R.opened keys d.made bytes))
