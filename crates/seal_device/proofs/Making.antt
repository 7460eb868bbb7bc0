-- What sealing gives, by digests.
use Rattle.std.proofs.Common.{◌≡◌, ℕ, List, Option, Bool, refl, sym, ap, ◌∙◌}
use Rattle.std.specs.Prelude.{Result, Ok, Err, Some}
use Rattle.flk_base.specs.Stop.{reported}
use Rattle.tpm_state.specs.Counters.{Counters}
use Rattle.seal_device.specs.Keys.{Keys}
use Rattle.seal_device.specs.Sealed.{Bearing}
use Rattle.seal_device.specs.Blobs.{blob}
use Rattle.seal_device.specs.Sealing.{present_chain, seal, seal_bearing, seal_with}
use Rattle.seal_device.specs.Digests.{DigestDevice, digests}
use Rattle.seal_device.specs.Faults.{seal_fault}
use Rattle.seal_device.specs.Refusals.Seal as seals
use Rattle.seal_device.specs.declared.faults.SealFault.TheVariants as seal_faults

-- where the code finds what the record bears, there is no refusal
pub none_refused : (r : Result (Option Bearing) seals.Refusal) (borne : Option Bearing) →
    Ok borne ≡ reported seal_fault seal_faults.PowerLost (Some r) → r ≡ Ok borne
none_refused (Ok other) borne is = let same : other ≡ borne = cc in
    ap (λ (o : Option Bearing). let end : Result (Option Bearing) seals.Refusal = Ok o in end) same
none_refused (Err refusal) borne is = absurd (cc)

-- then the answer is the blob of the new record
pub blob_given : (d : DigestDevice) (keys : Keys) (bytes : List ℕ) (counter : Option ℕ)
    (ahead : Bool) (serial : ℕ) (c : Counters (List ℕ)) (present : List ℕ)
    (borne : Option Bearing) →
    Ok borne ≡ reported seal_fault seal_faults.PowerLost
    (Some (seal_bearing serial c bytes counter ahead)) →
    serial ≡ d.serial → c ≡ d.counters → present ≡ present_chain digests d →
    (seal digests bytes counter ahead d keys).1
    ≡ Ok (blob keys (record { serial = serial; chain = present; counter = borne; bytes = bytes }))
blob_given d keys bytes counter ahead serial c present borne is one two three =
    ap (λ (n : ℕ). (seal_with digests bytes d keys
    (seal_bearing n d.counters bytes counter ahead)).1) (sym one)
    ∙ ap (λ (x : Counters (List ℕ)). (seal_with digests bytes d keys
    (seal_bearing serial x bytes counter ahead)).1) (sym two)
    ∙ ap (λ (r : Result (Option Bearing) seals.Refusal). (seal_with digests bytes d keys r).1)
    (none_refused (seal_bearing serial c bytes counter ahead) borne is)
    ∙ rw (one, three) refl
