-- Unsealing on both platforms: where the strings that were hashed are clean and the blob is not
-- forged, it comes to the same.
use Rattle.std.proofs.Common.{◌≡◌, ◌≢◌, ℕ, zero, suc, List, [], ◌∷◌, map, Bool}
use Rattle.std.proofs.Common.{true, false, Option, Some, None, refl, sym, ap, ◌∙◌, subst, arith}
use Rattle.std.proofs.Common.{All, Contains}
use Rattle.std.specs.Prelude.{IfSome, IsTrue, Result, Err, bytes_eq, if◌then◌else◌}
use Rattle.std.specs.Option.{option_map, ok_or}
use Rattle.std.proofs.lemmas.Bool.{and_parts}
use Rattle.std.proofs.lemmas.List.Elements.{All-contains}
use Rattle.std.proofs.lemmas.Slice.Eq.{bytes_eq-Decides}
use Rattle.tpm_state.specs.Chain.{Start, Zeros, Ones, Chain, From, ◌▷◌, value}
use Rattle.tpm_state.specs.Counters.{Counter, Counters, counter_at, counter_map, counters_map}
use Rattle.tpm_state.specs.Counters.{increment}
use Rattle.tpm_state.specs.CounterLaws.{mapped_at, mapped_increment}
use Rattle.seal_device.specs.Keys.{Keys}
use Rattle.seal_device.specs.Sealed.{Bearing, Sealed, InRange, with_chain_by}
use Rattle.seal_device.specs.Bearings.{has_value, has_next, counter_stands, content, awaited}
use Rattle.seal_device.specs.Blobs.{tag_ok, parsed}
use Rattle.seal_device.specs.Sealing.{with_keys, present_chain, open_blob}
use Rattle.seal_device.specs.Commands.{Unseal, CheckNext, Increment, with_counters}
use Rattle.seal_device.specs.Digests.{DigestDevice, digests}
use Rattle.seal_device.specs.Lists.{ListDevice, lists, same_start, same_chain, blob_of, record_of}
use Rattle.seal_device.specs.Ledger.{Ledger, Clean, WasMade}
use Rattle.seal_device.specs.Agreement.{digested, reply_digested, Noted, blobs}
use Rattle.seal_device.specs.Refusals.Unseal as unseals
use Rattle.seal_device.proofs.Alike.{Alike, present_alike, with_keys_alike}
use Rattle.seal_device.proofs.BlobLaws.{tag_ok-blob, parsed-blob}
use Rattle.seal_device.proofs.Known.{Hashed, present_hashed}
use Rattle.seal_device.proofs.Values.{apart, length-value}

-- ---- chains are compared alike

same_start_is : (one other : Start) → same_start one other ≡ true → one ≡ other
same_start_is Zeros Zeros is = refl
same_start_is Ones Ones is = refl
same_start_is Zeros Ones is = absurd (cc)
same_start_is Ones Zeros is = absurd (cc)

start_itself : (start : Start) → same_start start start ≡ true
start_itself Zeros = refl
start_itself Ones = refl

-- chains that the test says are the same are one
pub same_chain_is : (one other : Chain) → same_chain one other ≡ true → one ≡ other
same_chain_is (From start) (From other) is = ap (λ (s : Start). From s) (same_start_is start other is)
same_chain_is (From start) (other ▷ text) is = absurd (cc)
same_chain_is (chain ▷ text) (From start) is = absurd (cc)
same_chain_is (chain ▷ text) (other ▷ text') is =
    let parts = and_parts (same_chain chain other) (bytes_eq text text') is in
    let chains : chain ≡ other = same_chain_is chain other parts.0 in
    let texts : text ≡ text' = (bytes_eq-Decides text text').0 parts.1 in
    cc

-- and a chain is the same as itself
pub chain_itself : (chain : Chain) → same_chain chain chain ≡ true
chain_itself (From start) = start_itself start
chain_itself (chain ▷ text) =
    let before : same_chain chain chain ≡ true = chain_itself chain in
    let last : bytes_eq text text ≡ true = (bytes_eq-Decides text text).1 refl in
    rw (before, last) refl

-- of chains whose strings are clean, the values are the same where the chains are
pub same_alike : (h : List (List ℕ)) → Clean h → (one other : Chain) → Hashed h one →
    Hashed h other → bytes_eq (value one) (value other) ≡ same_chain one other
same_alike h clean one other known too =
    by_tests (same_chain one other) refl (bytes_eq (value one) (value other)) refl where
      by_tests : (a : Bool) → same_chain one other ≡ a → (b : Bool) →
          bytes_eq (value one) (value other) ≡ b →
          bytes_eq (value one) (value other) ≡ same_chain one other
      by_tests true is true is' = is' ∙ sym is
      by_tests false is false is' = is' ∙ sym is
      by_tests true is false is' =
          let same : one ≡ other = same_chain_is one other is in
          (bytes_eq-Decides (value one) (value other)).1 (ap value same) ∙ sym is
      by_tests false is true is' =
          let values : value one ≡ value other =
          (bytes_eq-Decides (value one) (value other)).0 is' in
          let same : one ≡ other = apart h clean one other known too values in
          is' ∙ sym (subst (λ (chain : Chain). same_chain one chain ≡ true) same
          (chain_itself one))

-- ---- the record of a blob

-- where one of the blobs is shown, a record is found that has it
pub found : (keys : Keys) (made : List (Sealed Chain)) (p : List ℕ) →
    Contains (map (blob_of keys) made) p →
    (r : Sealed Chain) × Contains made r × (blob_of keys r ≡ p) × (record_of keys made p ≡ Some r)
found keys [] p (k, l, is) = absurd (omega arith)
found keys (r ∷ made) p there =
    by_test (λ one. found keys made p one) (bytes_eq (blob_of keys r) p) refl there where
      by_test :
          (Contains (map (blob_of keys) made) p → (s : Sealed Chain) × Contains made s
          × (blob_of keys s ≡ p) × (record_of keys made p ≡ Some s)) →
          (b : Bool) → bytes_eq (blob_of keys r) p ≡ b →
          Contains (map (blob_of keys) (r ∷ made)) p →
          (s : Sealed Chain) × Contains (r ∷ made) s × (blob_of keys s ≡ p)
          × (record_of keys (r ∷ made) p ≡ Some s)
      by_test again true is one =
          (r, (0, omega arith, refl), (bytes_eq-Decides (blob_of keys r) p).0 is, rw is refl)
      by_test again false is (zero, l, first) =
          absurd (let same : bytes_eq (blob_of keys r) p ≡ true =
          (bytes_eq-Decides (blob_of keys r) p).1 first in
          cc)
      by_test again false is (suc k, l, later) =
          let rest = again (k, omega arith, later) in (
            rest.0,
            (suc rest.1.0, (let low = rest.1.1 in omega arith), rest.1.2),
            rest.2,
            rw is rest.3,
          )

-- where no record has the blob, none is found
pub not_found : (keys : Keys) (made : List (Sealed Chain)) (p : List ℕ) →
    ((r : Sealed Chain) → Contains made r → blob_of keys r ≢ p) → record_of keys made p ≡ None
not_found keys [] p other = refl
not_found keys (r ∷ made) p other =
    by_test (not_found keys made p (λ s there. other s (
      suc there.0,
      (let low = there.1 in
          omega arith),
      there.2,
    )))
    (bytes_eq (blob_of keys r) p) refl where
      by_test : record_of keys made p ≡ None → (b : Bool) → bytes_eq (blob_of keys r) p ≡ b →
          record_of keys (r ∷ made) p ≡ None
      by_test rest true is =
          absurd (other r (0, omega arith, refl) ((bytes_eq-Decides (blob_of keys r) p).0 is))
      by_test rest false is = rw is rest

-- what is found is one of the records, and has the blob
pub found_in : (keys : Keys) (made : List (Sealed Chain)) (p : List ℕ) →
    IfSome (record_of keys made p) (λ r. Contains made r × (blob_of keys r ≡ p))
found_in keys [] p = tt
found_in keys (r ∷ made) p =
    by_test (later (record_of keys made p) (found_in keys made p)) (bytes_eq (blob_of keys r) p)
    refl where
      later : (o : Option (Sealed Chain)) →
          IfSome o (λ s. Contains made s × (blob_of keys s ≡ p)) →
          IfSome o (λ s. Contains (r ∷ made) s × (blob_of keys s ≡ p))
      later None one = tt
      later (Some s) one =
          ((suc one.0.0, (let low = one.0.1 in omega arith), one.0.2), one.1)

      by_test :
          IfSome (record_of keys made p) (λ s. Contains (r ∷ made) s × (blob_of keys s ≡ p)) →
          (b : Bool) → bytes_eq (blob_of keys r) p ≡ b →
          IfSome (record_of keys (r ∷ made) p)
          (λ s. Contains (r ∷ made) s × (blob_of keys s ≡ p))
      by_test rest true is =
          rw is ((0, omega arith, refl), (bytes_eq-Decides (blob_of keys r) p).0 is)
      by_test rest false is = rw is rest

-- ---- a blob is read alike

-- a record stays in its ranges when its chain is shown by its value
shown_in_range : (r : Sealed Chain) → InRange r → InRange (with_chain_by value r)
shown_in_range r fits =
    record { serial = fits.serial; counter = fits.counter; bytes = fits.bytes }

pub tag_ok-blob_of : (keys : Keys) (r : Sealed Chain) → InRange r →
    tag_ok keys (blob_of keys r) ≡ true
tag_ok-blob_of keys r fits =
    tag_ok-blob keys (with_chain_by value r) (shown_in_range r fits) (length-value r.chain)

pub parsed-blob_of : (keys : Keys) (r : Sealed Chain) → InRange r →
    parsed keys (blob_of keys r) ≡ Some (with_chain_by value r)
parsed-blob_of keys r fits =
    parsed-blob keys (with_chain_by value r) (shown_in_range r fits) (length-value r.chain)

-- where bytes with the tag are the blob of a record, they are read as the record that is found
read_alike : (keys : Keys) (made : List (Sealed Chain)) (p : List ℕ) → All InRange made →
    (IsTrue (tag_ok keys p) → Contains (map (blob_of keys) made) p) →
    parsed keys p ≡ option_map (with_chain_by value) (record_of keys made p)
read_alike keys made p fits was = by_test (tag_ok keys p) refl where
  by_test : (b : Bool) → tag_ok keys p ≡ b →
      parsed keys p ≡ option_map (with_chain_by value) (record_of keys made p)
  by_test true is =
      let one = found keys made p (was is) in
      let range = All-contains InRange made one.0 fits one.1 in
      sym (ap (parsed keys) one.2)
      ∙ parsed-blob_of keys one.0 range
      ∙ sym (ap (option_map (with_chain_by value)) one.3)
  by_test false is =
      let none = not_found keys made p (λ r there same.
      let range = All-contains InRange made r fits there in
      let ok : tag_ok keys p ≡ true =
      subst (λ (bytes : List ℕ). tag_ok keys bytes ≡ true) same (tag_ok-blob_of keys r range) in
      let clash : true ≡ false = sym ok ∙ is in cc) in
      rw (is, none) refl

-- ---- and opens alike

-- what is found in a record by digests is what is found in it by lists
abbrev pub FoundAlike : {X : Type 0} → (Sealed Chain → Option X) → (Sealed (List ℕ) → Option X) →
    Type 0
FoundAlike found shown = (r : Sealed Chain) → shown (with_chain_by value r) ≡ found r

-- a record opens alike, if its strings were hashed
opened_alike : {X : Type 0} (d : ListDevice) (ledger : Ledger) (found : Sealed Chain → Option X)
    (shown : Sealed (List ℕ) → Option X) → Noted d ledger → Clean ledger.hashed →
    FoundAlike found shown → (o : Option (Sealed Chain)) →
    IfSome o (λ r. Hashed ledger.hashed r.chain) →
    open_blob digests (digested d) shown (option_map (with_chain_by value) o)
    ≡ open_blob lists d found o
opened_alike d ledger found shown noted clean alike None known = refl
opened_alike {X} d ledger found shown noted clean alike (Some r) known =
    let same : bytes_eq (value r.chain) (value (present_chain lists d))
    ≡ same_chain r.chain (present_chain lists d) =
    same_alike ledger.hashed clean r.chain (present_chain lists d) known
    (present_hashed d ledger noted) in
    ap (λ (present : List ℕ). opens (bytes_eq (value r.chain) present) (shown (with_chain_by value r)))
    (present_alike d)
    ∙ ap (λ (b : Bool). opens b (shown (with_chain_by value r))) same
    ∙ ap (opens (same_chain r.chain (present_chain lists d))) (alike r) where
      opens : Bool → Option X → Result X unseals.Refusal
      opens b o = if b then ok_or o unseals.WrongCounter else Err unseals.WrongChain

-- so does what is found
opened_found : {X : Type 0} (d : ListDevice) (ledger : Ledger) (found : Sealed Chain → Option X)
    (shown : Sealed (List ℕ) → Option X) → Noted d ledger → Clean ledger.hashed →
    FoundAlike found shown → (p : List ℕ) → WasMade d.keys p ledger →
    (keys : Keys) → d.keys ≡ Some keys →
    open_blob digests (digested d) shown (parsed keys p)
    ≡ open_blob lists d found (record_of keys d.made.records p)
opened_found d ledger found shown noted clean alike p was keys is =
    let made : map (blob_of keys) d.made.records ≡ ledger.made =
    sym (ap (λ (k : Option Keys). blobs k d.made.records) is) ∙ noted.made in
    let here : IsTrue (tag_ok keys p) → Contains ledger.made p =
    subst (λ (k : Option Keys). WasMade k p ledger) is was in
    ap (open_blob digests (digested d) shown) (read_alike keys d.made.records p noted.in_range
    (λ ok. subst (λ (all : List (List ℕ)). Contains all p) (sym made) (here ok)))
    ∙ opened_alike d ledger found shown noted clean alike (record_of keys d.made.records p)
    (known (record_of keys d.made.records p) (found_in keys d.made.records p)) where
      known : (o : Option (Sealed Chain)) →
          IfSome o (λ r. Contains d.made.records r × (blob_of keys r ≡ p)) →
          IfSome o (λ r. Hashed ledger.hashed r.chain)
      known None one = tt
      known (Some r) one =
          All-contains (λ s. Hashed ledger.hashed s.chain) d.made.records r noted.records one.0

-- a command that opens a blob, and changes nothing, does so alike
opening_alike : {X : Type 0} (d : ListDevice) (ledger : Ledger) (found : Sealed Chain → Option X)
    (shown : Sealed (List ℕ) → Option X) → Noted d ledger → Clean ledger.hashed →
    FoundAlike found shown → (p : List ℕ) → WasMade d.keys p ledger →
    with_keys unseals.Unprovisioned (digested d)
    (λ keys. (digested d, open_blob digests (digested d) shown (parsed keys p))) d.keys
    ≡ reply_digested (with_keys unseals.Unprovisioned d
    (λ keys. (d, open_blob lists d found (record_of keys d.made.records p))) d.keys)
opening_alike {X} d ledger found shown noted clean alike p was =
    with_keys_alike unseals.Unprovisioned d _ _ d.keys (λ keys is.
    ap (λ (reply : Result X unseals.Refusal).
    let end : DigestDevice × Result X unseals.Refusal = (digested d, reply) in end)
    (opened_found d ledger found shown noted clean alike p was keys is))

-- ---- what is found in a record

-- a counter has a value by other owners, or a next one, where it has it here
has_value_alike : {G H : Type 0} (f : G → H) (value : ℕ) (o : Option (Counter G)) →
    has_value value (option_map (counter_map f) o) ≡ has_value value o
has_value_alike f value None = refl
has_value_alike f value (Some counter) = refl

has_next_alike : {G H : Type 0} (f : G → H) (value : ℕ) (o : Option (Counter G)) →
    has_next value (option_map (counter_map f) o) ≡ has_next value o
has_next_alike f value None = refl
has_next_alike f value (Some counter) = refl

-- the counter that is borne stands by other owners where it stands here
stands_alike : {G H : Type 0} (f : G → H) (c : Counters G) (borne : Option Bearing) →
    counter_stands (counters_map f c) borne ≡ counter_stands c borne
stands_alike f c None = refl
stands_alike f c (Some b) =
    ap (has_value b.value) (mapped_at f c b.id) ∙ has_value_alike f b.value (counter_at c b.id)

-- and is awaited where it is awaited here
awaited_alike : {G H : Type 0} (f : G → H) (c : Counters G) (borne : Option Bearing) →
    awaited (counters_map f c) borne ≡ awaited c borne
awaited_alike f c None = refl
awaited_alike f c (Some b) =
    ap (λ (next : Bool). if next then Some b.id else None)
    (ap (has_next b.value) (mapped_at f c b.id) ∙ has_next_alike f b.value (counter_at c b.id))

-- what a record holds is found in it alike
content_alike : (c : Counters Chain) → FoundAlike (content c) (content (counters_map value c))
content_alike c r =
    ap (λ (stands : Bool). if stands then Some r.bytes else None) (stands_alike value c r.counter)

-- ---- the commands that compare

pub unseal_alike : (p : List ℕ) (d : ListDevice) (ledger : Ledger) → Noted d ledger →
    Clean ledger.hashed → WasMade d.keys p ledger → Alike (Unseal p) d
unseal_alike p d ledger noted clean was =
    opening_alike d ledger (content d.counters) (content (counters_map value d.counters)) noted
    clean (content_alike d.counters) p was

pub check_next_alike : (p : List ℕ) (d : ListDevice) (ledger : Ledger) → Noted d ledger →
    Clean ledger.hashed → WasMade d.keys p ledger → Alike (CheckNext p) d
check_next_alike p d ledger noted clean was =
    opening_alike d ledger (λ r. awaited d.counters r.counter)
    (λ r. awaited (counters_map value d.counters) r.counter) noted clean
    (λ r. awaited_alike value d.counters r.counter) p was

pub increment_alike : (id : ℕ) (d : ListDevice) (ledger : Ledger) → Noted d ledger →
    Clean ledger.hashed → Alike (Increment id) d
increment_alike id d ledger noted clean =
    ap (λ (who : List ℕ).
    with_counters (digested d) (increment bytes_eq id who (counters_map value d.counters)))
    (present_alike d)
    ∙ ap (with_counters (digested d))
    (mapped_increment value same_chain bytes_eq id (present_chain lists d) d.counters
    (λ counter at. same_alike ledger.hashed clean counter.owner (present_chain lists d)
    (noted.owners id counter at) (present_hashed d ledger noted)))
