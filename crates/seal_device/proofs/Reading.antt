-- What stands in bytes that have the form of a blob.
use Rattle.std.proofs.Common.{◌≡◌, ℕ, ◌+◌, ◌≤◌, true, false, List, length, take, drop}
use Rattle.std.proofs.Common.{refl, sym, ap, ◌∙◌, arith}
use Rattle.std.specs.Prelude.{bytes_eq, slice_range, Bool, Option, Some, None, Result, Ok, Err}
use Rattle.std.specs.Prelude.{if◌then◌else◌}
use Rattle.std.specs.Option.{ok_or}
use Rattle.std.proofs.lemmas.Bool.{and_parts, leb-true, eqb-true}
use Rattle.std.proofs.lemmas.Slice.Eq.{bytes_eq-Decides}
use Rattle.std.proofs.lemmas.List.Edits.{length-between}
use Rattle.flk_hmac.specs.Hmac.{mac}
use Rattle.flk_hmac.specs.Mask.{masked_bytes}
use Rattle.flk_hmac.proofs.Masks.{length-masked_bytes}
use Rattle.flk_base.specs.Stop.{over}
use Rattle.tpm_state.specs.Counters.{Counters}
use Rattle.seal_device.specs.Keys.{Keys}
use Rattle.seal_device.specs.Blobs.{is_form, mark, mark_field, serial_field, length_field}
use Rattle.seal_device.specs.Sealed.{Bearing, Sealed}
use Rattle.seal_device.specs.Blobs.{bearing_of, chain_field, masked_field, tag_ok, sealed_of, parsed}
use Rattle.seal_device.specs.Bearings.{content, awaited, counter_stands}
use Rattle.seal_device.specs.Sealing.{present_chain, open_blob}
use Rattle.seal_device.specs.Digests.{DigestDevice, digests}
use Rattle.seal_device.specs.Refusals.Unseal as unseals

-- the form of a blob, as facts
pub record Formed (p : List ℕ) : Type 0 where
  pub marked : mark_field p ≡ mark
  pub short : length_field p ≤ 2048
  pub whole : length p ≡ 59 + length_field p

pub formed : (p : List ℕ) → is_form p ≡ true → Formed p
formed p is =
    let whole = and_parts _ _ is in
    let short = and_parts _ _ whole.0 in
    let marked = and_parts _ _ short.0 in
    record {
      marked = (bytes_eq-Decides _ _).0 marked.1;
      short = leb-true _ _ short.1;
      whole = eqb-true _ _ whole.1;
    }

-- a blob bears as many bytes as it says
pub length-sealed_of : (keys : Keys) (p : List ℕ) → is_form p ≡ true →
    length (sealed_of keys p).bytes ≡ length_field p
unfolding sealed_of
length-sealed_of keys p is =
    let form = formed p is in
    let whole : length p ≡ 59 + length_field p = form.whole in
    length-masked_bytes keys.masking (serial_field p) (masked_field p)
    ∙ length-between p 39 (39 + length_field p) (omega arith)
    ∙ omega arith

-- the bytes that a blob bears, as the code reads them
pub bytes-sealed_of : (keys : Keys) (p part key : List ℕ) (serial n : ℕ) → key ≡ keys.masking →
    serial ≡ serial_field p → n ≡ length_field p →
    part ≡ masked_bytes key serial (slice_range p 39 (39 + n)) →
    part ≡ (sealed_of keys p).bytes
unfolding sealed_of
bytes-sealed_of keys p part key serial n one two three is = rw (is, one, two, three) refl

-- bytes that have not the form of a blob have no tag
pub tag_ok-unformed : (keys : Keys) (p : List ℕ) → is_form p ≡ false → false ≡ tag_ok keys p
unfolding tag_ok
tag_ok-unformed keys p is = rw is refl

-- bytes with the tag have the form
pub form-tagged : (keys : Keys) (p : List ℕ) → tag_ok keys p ≡ true → is_form p ≡ true
unfolding tag_ok
form-tagged keys p ok = (and_parts (is_form p) _ ok).0

-- and the tag of those that have the form, as the code compares it
pub tag_ok-formed : (keys : Keys) (p front shown key : List ℕ) (n : ℕ) → is_form p ≡ true →
    key ≡ keys.sealing → n ≡ length_field p → front ≡ take (39 + n) p → shown ≡ drop (39 + n) p →
    bytes_eq shown (mac key front) ≡ tag_ok keys p
unfolding tag_ok
tag_ok-formed keys p front shown key n is one two three four =
    rw (three, four, one, two, is) refl

-- ---- what is found in a blob, by digests

-- bytes without the tag
pub not_blob : {X : Type 0} (d : DigestDevice) (keys : Keys) (p : List ℕ)
    (found : Sealed (List ℕ) → Option X) → tag_ok keys p ≡ false →
    open_blob digests d found (parsed keys p) ≡ Err unseals.NotBlob
not_blob d keys p found differs = rw differs refl

-- bytes with the tag, whose value of register 17 differs
pub wrong_chain : {X : Type 0} (d : DigestDevice) (keys : Keys) (p present : List ℕ)
    (found : Sealed (List ℕ) → Option X) → tag_ok keys p ≡ true →
    present ≡ present_chain digests d → bytes_eq (chain_field p) present ≡ false →
    open_blob digests d found (parsed keys p) ≡ Err unseals.WrongChain
unfolding sealed_of
wrong_chain d keys p present found ok at differs = rw (ok, sym at, differs) refl

-- and whose value is the same
pub right_chain : {X : Type 0} (d : DigestDevice) (keys : Keys) (p present : List ℕ)
    (found : Sealed (List ℕ) → Option X) → tag_ok keys p ≡ true →
    present ≡ present_chain digests d → bytes_eq (chain_field p) present ≡ true →
    open_blob digests d found (parsed keys p)
    ≡ ok_or (found (sealed_of keys p)) unseals.WrongCounter
unfolding sealed_of
right_chain d keys p present found ok at same = rw (ok, sym at, same) refl

-- the counter that it bears
pub counter-sealed_of : (keys : Keys) (p : List ℕ) → (sealed_of keys p).counter ≡ bearing_of p
unfolding sealed_of
counter-sealed_of keys p = refl

-- so what it opens to, as the code finds the counter's value
pub opens : (d : DigestDevice) (keys : Keys) (p present : List ℕ) (c : Counters (List ℕ))
    (borne : Option Bearing) (b : Bool) → tag_ok keys p ≡ true →
    present ≡ present_chain digests d → bytes_eq (chain_field p) present ≡ true →
    c ≡ d.counters → borne ≡ bearing_of p → b ≡ counter_stands c borne →
    open_blob digests d (content d.counters) (parsed keys p)
    ≡ (if b then Ok (sealed_of keys p).bytes else Err unseals.WrongCounter)
opens d keys p present c borne b ok at same one two three =
    right_chain d keys p present (content d.counters) ok at same
    ∙ ap (λ (o : Option Bearing). ok_or
    (if counter_stands d.counters o then Some (sealed_of keys p).bytes else None)
    unseals.WrongCounter) (counter-sealed_of keys p ∙ sym two)
    ∙ ap (λ (x : Counters (List ℕ)). ok_or
    (if counter_stands x borne then Some (sealed_of keys p).bytes else None)
    unseals.WrongCounter) (sym one)
    ∙ ap (λ (x : Bool). ok_or
    (if x then Some (sealed_of keys p).bytes else None) unseals.WrongCounter) (sym three)
    ∙ by_case b where
      by_case : (x : Bool) →
          ok_or (if x then Some (sealed_of keys p).bytes else None) unseals.WrongCounter
          ≡ (if x then Ok (sealed_of keys p).bytes else Err unseals.WrongCounter)
      by_case true = refl
      by_case false = refl

-- and what it comes to when it is tried for the counter's next value
pub tried : (d : DigestDevice) (keys : Keys) (p present : List ℕ) (c : Counters (List ℕ))
    (borne : Option Bearing) (o : Option ℕ) → tag_ok keys p ≡ true →
    present ≡ present_chain digests d → bytes_eq (chain_field p) present ≡ true →
    c ≡ d.counters → borne ≡ bearing_of p → o ≡ awaited c borne →
    open_blob digests d (λ r. awaited d.counters r.counter) (parsed keys p)
    ≡ ok_or o unseals.WrongCounter
tried d keys p present c borne o ok at same one two three =
    right_chain d keys p present (λ r. awaited d.counters r.counter) ok at same
    ∙ ap (λ (b : Option Bearing). ok_or (awaited d.counters b) unseals.WrongCounter)
    (counter-sealed_of keys p ∙ sym two)
    ∙ ap (λ (x : Counters (List ℕ)). ok_or (awaited x borne) unseals.WrongCounter) (sym one)
    ∙ ap (λ (x : Option ℕ). ok_or x unseals.WrongCounter) (sym three)

-- bytes that stand in a buffer, as they are reported
pub bytes_reported : {E : Type 0} (bytes buffer out : List ℕ) (n : ℕ) →
    n ≡ length bytes → out ≡ over bytes buffer →
    ◌≡◌ {A = Result ℕ E × List ℕ} (Ok n, out) (Ok (length bytes), over bytes buffer)
bytes_reported bytes buffer out n size is = rw (size, is) refl
