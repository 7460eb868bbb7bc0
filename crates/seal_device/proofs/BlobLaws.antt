-- The blob of a record has the tag, and is read as that record.
use Rattle.std.proofs.Common.{◌≡◌, ℕ, ◌+◌, ◌<◌, ◌≤◌, ◌^◌, ◌&&◌, Bool, true, false, eqb, List, ◌++◌, length}
use Rattle.std.proofs.Common.{take, drop, Option, Some, None, refl, sym, ap, ◌∙◌, arith}
use Rattle.std.specs.Prelude.{IfSome}
use Rattle.std.proofs.lemmas.Bool.{le-leb, eq-eqb, ne_eqb}
use Rattle.std.proofs.lemmas.List.{take_at, drop_at}
use Rattle.std.proofs.lemmas.Slice.Eq.{bytes_eq-Decides}
use Rattle.flk_hmac.specs.Mask.{masked_bytes}
use Rattle.flk_hmac.proofs.Masks.{masked_bytes-masked_bytes}
use Rattle.seal_device.specs.Keys.{Keys}
use Rattle.seal_device.specs.Sealed.{Bearing, Sealed, BearingInRange, InRange}
use Rattle.seal_device.specs.Blobs.{tagged, tag, blob, serial_field, id_field}
use Rattle.seal_device.specs.Blobs.{value_field, length_field, masked_field, bearing_of, tag_ok}
use Rattle.seal_device.specs.Blobs.{sealed_of, parsed}
use Rattle.seal_device.proofs.BlobFields.{the_record, the_blob, length-tagged, length-blob, mark-blob}
use Rattle.seal_device.proofs.BlobFields.{serial-blob, no_id-blob, id-blob, value-blob, chain-blob}
use Rattle.seal_device.proofs.BlobFields.{length_field-blob, masked-blob}

-- five tests that are met are met together
all_met : (a b c d e : Bool) → a ≡ true → b ≡ true → c ≡ true → d ≡ true → e ≡ true →
    (a && b && c && d && e) ≡ true
all_met a b c d e one two three four five = rw (one, two, three, four, five) refl

-- bytes that end in their tag
tag_stands : (keys : Keys) (front : List ℕ) (k : ℕ) → length front ≡ k →
    drop k (front ++ tag keys front) ≡ tag keys (take k (front ++ tag keys front))
tag_stands keys front k long =
    drop_at front (tag keys front) k long
    ∙ sym (ap (tag keys) (take_at front (tag keys front) k long))

-- no counter is read where 255 stands
no_bearing : (p : List ℕ) → id_field p ≡ 255 → bearing_of p ≡ None
no_bearing p is = rw is refl

-- and else the one that stands there
bearing : (p : List ℕ) (b : Bearing) → id_field p ≡ b.id → value_field p ≡ b.value → b.id < 255 →
    bearing_of p ≡ Some b
bearing p b one two low =
    let other : eqb (id_field p) 255 ≡ false = ne_eqb _ _ (λ is. absurd (omega arith)) in
    rw (other, one, two) refl

-- records with the same parts are one
one_record : (s s' : ℕ) (v v' : List ℕ) (c c' : Option Bearing) (b b' : List ℕ) → s ≡ s' → v ≡ v' →
    c ≡ c' → b ≡ b' → the_record s v c b ≡ the_record s' v' c' b'
one_record s s' v v' c c' b b' one two three four = rw (one, two, three, four) refl

module _ (keys : Keys) (serial : ℕ) (chain : List ℕ) (bytes : List ℕ) where
  tagged_blob : (counter : Option Bearing) → length chain ≡ 20 → length bytes ≤ 2048 →
      tag_ok keys (the_blob keys serial chain bytes counter) ≡ true
  unfolding tag_ok
  tagged_blob counter long short =
      let p = the_blob keys serial chain bytes counter in
      let number : length_field p ≡ length bytes =
      length_field-blob keys serial chain bytes counter long (omega arith) in
      let whole : length p ≡ 59 + length bytes =
      length-blob keys serial chain bytes counter long in
      let front : length (tagged keys (the_record serial chain counter bytes))
      ≡ 39 + length_field p =
      length-tagged keys serial chain bytes counter long ∙ omega arith in
      all_met _ _ _ _ _
      (le-leb 59 (length p) (omega arith))
      ((bytes_eq-Decides _ _).1 (mark-blob keys serial chain bytes counter))
      (le-leb (length_field p) 2048 (omega arith))
      (eq-eqb (length p) (59 + length_field p) (omega arith))
      ((bytes_eq-Decides _ _).1 (tag_stands keys (tagged keys (the_record serial chain counter bytes))
      (39 + length_field p) front))

  bearing-blob : (counter : Option Bearing) → IfSome counter BearingInRange →
      bearing_of (the_blob keys serial chain bytes counter) ≡ counter
  bearing-blob None fits =
      no_bearing (the_blob keys serial chain bytes None) (no_id-blob keys serial chain bytes)
  bearing-blob (Some b) fits =
      let low = fits.0 in
      bearing (the_blob keys serial chain bytes (Some b)) b (id-blob keys serial chain bytes b (omega arith))
      (value-blob keys serial chain bytes b fits.1) low

  read_blob : (counter : Option Bearing) → serial < 2 ^ 64 → length chain ≡ 20 →
      IfSome counter BearingInRange → length bytes ≤ 2048 →
      sealed_of keys (the_blob keys serial chain bytes counter)
      ≡ the_record serial chain counter bytes
  unfolding sealed_of
  read_blob counter low long fits short =
      let p = the_blob keys serial chain bytes counter in
      let number = serial-blob keys serial chain bytes counter low in
      let content : masked_bytes keys.masking (serial_field p) (masked_field p) ≡ bytes =
      ap (λ (n : ℕ). masked_bytes keys.masking n (masked_field p)) number
      ∙ ap (masked_bytes keys.masking serial)
      (masked-blob keys serial chain bytes counter long (omega arith))
      ∙ masked_bytes-masked_bytes keys.masking serial bytes in
      one_record _ _ _ _ _ _ _ _ number (chain-blob keys serial chain bytes counter long)
      (bearing-blob counter fits) content

-- the blob of a record in range has the tag
pub tag_ok-blob : (keys : Keys) (r : Sealed (List ℕ)) → InRange r → length r.chain ≡ 20 →
    tag_ok keys (blob keys r) ≡ true
tag_ok-blob keys r fits long =
    tagged_blob keys r.serial r.chain r.bytes r.counter long fits.bytes

-- and is read as it
pub parsed-blob : (keys : Keys) (r : Sealed (List ℕ)) → InRange r → length r.chain ≡ 20 →
    parsed keys (blob keys r) ≡ Some r
parsed-blob keys r fits long =
    let ok = tag_ok-blob keys r fits long in
    let read : sealed_of keys (blob keys r) ≡ r =
    read_blob keys r.serial r.chain r.bytes r.counter fits.serial long fits.counter fits.bytes in
    rw (ok, read) refl

-- so records with one blob are one
pub one_blob : (keys : Keys) (r s : Sealed (List ℕ)) → InRange r → InRange s →
    length r.chain ≡ 20 → length s.chain ≡ 20 → blob keys r ≡ blob keys s → r ≡ s
one_blob keys r s fits fits' long long' same =
    let both : ◌≡◌ {A = Option (Sealed (List ℕ))} (Some r) (Some s) =
    sym (parsed-blob keys r fits long) ∙ ap (parsed keys) same ∙ parsed-blob keys s fits' long' in
    cc

-- its length
pub length-blob_of : (keys : Keys) (r : Sealed (List ℕ)) → length r.chain ≡ 20 →
    length (blob keys r) ≡ 59 + length r.bytes
length-blob_of keys r long = length-blob keys r.serial r.chain r.bytes r.counter long
