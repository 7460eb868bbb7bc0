-- What a buffer holds once parts of it were written, one after the other.
use Rattle.std.proofs.Common.{◌≡◌, ℕ, ◌+◌, ◌-◌, List, ◌++◌, length, take, drop, arith}
use Rattle.std.proofs.Common.{refl, sym, ap, ◌∙◌, append_assoc, length-append}
use borrow.Rule.Slice.PartMut.{put_mid}
use Rattle.flk_base.specs.Stop.{over}
use Rattle.std.proofs.lemmas.List.{drop_at, take_at, drop-drop}
use Rattle.flk_hmac.specs.Hmac.{mac}
use Rattle.flk_hmac.specs.Mask.{masked_bytes}
use Rattle.flk_hmac.proofs.Masks.{length-masked_bytes}
use Rattle.seal_device.specs.Keys.{Keys}
use Rattle.seal_device.specs.Sealed.{Sealed}
use Rattle.seal_device.specs.Blobs.{head, tagged, tag, blob}

-- a first part that was written
pub first_written : (n : ℕ) (xs ys buffer : List ℕ) → length xs ≡ n → xs ≡ ys →
    put_mid 0 n buffer xs ≡ over ys buffer
first_written n xs ys buffer long same =
    ap (λ (k : ℕ). xs ++ drop k buffer) (sym long) ∙ ap (λ (bytes : List ℕ). over bytes buffer) same

-- a part that is written after a first one
next_written : (a k : ℕ) (first rest ys : List ℕ) → length first ≡ a →
    put_mid a k (first ++ rest) ys ≡ first ++ (ys ++ drop k rest)
next_written a k first rest ys long =
    ap (λ (xs : List ℕ). xs ++ (ys ++ drop k (drop a (first ++ rest)))) (take_at first rest a long)
    ∙ ap (λ (xs : List ℕ). first ++ (ys ++ drop k xs)) (drop_at first rest a long)

-- a head and a part after it
two_written : (h n : ℕ) (head part buffer : List ℕ) → length head ≡ h →
    put_mid h n (head ++ drop h buffer) part ≡ (head ++ part) ++ drop (h + n) buffer
two_written h n head part buffer long =
    next_written h n head (drop h buffer) part long
    ∙ sym (append_assoc head part (drop n (drop h buffer)))
    ∙ ap (λ (xs : List ℕ). (head ++ part) ++ xs) (drop-drop n h buffer)

-- they are what then stands in front
pub two_taken : (h n e : ℕ) (head part buffer : List ℕ) → length head ≡ h → length part ≡ n →
    e ≡ h + n → take e (put_mid h n (head ++ drop h buffer) part) ≡ head ++ part
two_taken h n e head part buffer long too end =
    ap (take e) (two_written h n head part buffer long)
    ∙ take_at (head ++ part) (drop (h + n) buffer) e (omega (arith, length-append head part))

-- and an end after both
pub three_written : (h n e k : ℕ) (head part end buffer : List ℕ) → length head ≡ h →
    length part ≡ n → length end ≡ k → e ≡ h + n →
    put_mid e k (put_mid h n (head ++ drop h buffer) part) end
    ≡ over ((head ++ part) ++ end) buffer
three_written h n e k head part end buffer long too three at =
    let all : length ((head ++ part) ++ end) ≡ h + n + k =
    omega (arith, length-append head part, length-append (head ++ part) end) in
    ap (λ (xs : List ℕ). put_mid e k xs end) (two_written h n head part buffer long)
    ∙ next_written e k (head ++ part) (drop (h + n) buffer) end
    (omega (arith, length-append head part))
    ∙ sym (append_assoc (head ++ part) end (drop k (drop (h + n) buffer)))
    ∙ ap (λ (xs : List ℕ). ((head ++ part) ++ end) ++ xs)
    (drop-drop k (h + n) buffer ∙ ap (λ (j : ℕ). drop j buffer) (sym all))

-- a head, the masked bytes and the tag of both are the blob
pub blob_written : (keys : Keys) (r : Sealed (List ℕ))
    (first part end buffer masking sealing : List ℕ) (e : ℕ) →
    masking ≡ keys.masking → sealing ≡ keys.sealing → first ≡ head r → length first ≡ 39 →
    part ≡ masked_bytes masking r.serial r.bytes → e ≡ 39 + length r.bytes →
    end ≡ mac sealing (take e (put_mid 39 (e - 39) (first ++ drop 39 buffer) part)) →
    length end ≡ 20 →
    put_mid e (e + 20 - e) (put_mid 39 (e - 39) (first ++ drop 39 buffer) part) end
    ≡ over (blob keys r) buffer
blob_written keys r first part end buffer masking sealing e one two is long masked at ends three =
    let size : length part ≡ e - 39 =
    ap length masked ∙ length-masked_bytes masking r.serial r.bytes ∙ omega arith in
    let part_is : part ≡ masked_bytes keys.masking r.serial r.bytes = rw (masked, one) refl in
    let front : first ++ part ≡ tagged keys r = rw (is, part_is) refl in
    let tag_is : end ≡ tag keys (tagged keys r) =
    ends
    ∙ ap (mac sealing) (two_taken 39 (e - 39) e first part buffer long size (omega arith) ∙ front)
    ∙ ap (λ (key : List ℕ). mac key (tagged keys r)) two in
    three_written 39 (e - 39) e (e + 20 - e) first part end buffer long size (omega arith)
    (omega arith)
    ∙ ap (λ (bytes : List ℕ). over (bytes ++ end) buffer) front
    ∙ ap (λ (bytes : List ℕ). over (tagged keys r ++ bytes) buffer) tag_is
