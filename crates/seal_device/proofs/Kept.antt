-- A record that was sealed stays on a device of lists, and its blob opens to it.
use Rattle.std.proofs.Common.{◌≡◌, ◌≢◌, ℕ, List, [], ◌∷◌, map, get_or, inl, inr, Bool, true}
use Rattle.std.proofs.Common.{false, Option, Some, None, refl, sym, ap, ◌∙◌, subst, arith, Contains}
use Rattle.std.specs.Prelude.{IfSome, Result, Ok, Err, if◌then◌else◌}
use Rattle.std.specs.Option.{ok_or}
use Rattle.std.proofs.lemmas.List.{length-map, get_or-map, get_or_default}
use Rattle.std.proofs.lemmas.Bool.{cases_lt, eqb-true}
use Rattle.std.proofs.lemmas.List.Elements.{All-contains, Contains-append_left, Contains-push}
use Rattle.flk_base.specs.Plan.{Plan, run}
use Rattle.flk_base.specs.PlanLaws.{plans_keep}
use Rattle.flk_base.specs.Stop.{limited, Fused, fused}
use Rattle.tpm_state.specs.Chain.{Chain, value}
use Rattle.tpm_state.specs.Counters.{Counter, Counters, counter_at}
use Rattle.seal_device.specs.Keys.{Keys}
use Rattle.seal_device.specs.Sealed.{Bearing, Sealed, InRange, with_chain_by}
use Rattle.seal_device.specs.Blobs.{parsed}
use Rattle.seal_device.specs.Bearings.{bearing, has_value, counter_stands, Stands, content, awaited}
use Rattle.seal_device.specs.Sealing.{with_keys, present_chain, new_record, with_record}
use Rattle.seal_device.specs.Sealing.{seal, seal_with, seal_bearing, unseal, check_next, open_blob}
use Rattle.seal_device.specs.Sealing.{open_record}
use Rattle.seal_device.specs.Commands.{Command, Seal, Unseal, CheckNext, Reply, act, costs}
use Rattle.seal_device.specs.Ledger.{Ledger, noted}
use Rattle.seal_device.specs.Lists.{ListDevice, lists, same_chain, blob_of, record_of, OpensTo}
use Rattle.seal_device.specs.Agreement.{Noted, SerialsRise}
use Rattle.seal_device.specs.Refusals.Seal as seals
use Rattle.seal_device.specs.Refusals.Unseal as unseals
use Rattle.seal_device.proofs.Effects.{after_each}
use Rattle.seal_device.proofs.Known.{stays_noted}
use Rattle.seal_device.proofs.Openings.{found, not_found, found_in, parsed-blob_of, same_chain_is}
use Rattle.seal_device.proofs.Openings.{chain_itself}
use Rattle.seal_device.proofs.Plans.{unnoted}
use Rattle.seal_device.proofs.Sealable.{sealable}
use Rattle.seal_device.proofs.Serials.{keys_stay}

-- a record stays where it is kept
record_stays : (c : Command) (d : ListDevice) (r : Sealed Chain) → Contains d.made.records r →
    Contains (act lists c d).0.made.records r
record_stays c d r there =
    after_each lists c d (λ (e : ListDevice). Contains e.made.records r) (record {
      nothing = there;
      seeded = λ keys none. there;
      measured = λ image. there;
      extended = λ n text chain at. there;
      sealed = λ bytes counter ahead borne one ok.
          Contains-append_left d.made.records (new_record lists bytes borne d ∷ []) r there;
      quoted = λ nonce one. there;
      created = λ one. there;
      incremented = λ id one. there;
      drawn = λ one less. there;
      powered = there;
    })

-- a device keeps a record under its keys, and its ledger has what it knows
pub record Keeps (keys : Keys) (r : Sealed Chain) (w : ListDevice × Ledger) : Type 0 where
  pub known : Noted w.0 w.1
  pub provisioned : w.0.keys ≡ Some keys
  pub kept : Contains w.0.made.records r

-- each command keeps that
keeps_stays : (keys : Keys) (r : Sealed Chain) (c : Command) (w : ListDevice × Ledger) →
    Keeps keys r w → Keeps keys r (noted lists c w).0
keeps_stays keys r c w keeps =
    record {
      known = stays_noted c w.0 w.1 keeps.known;
      provisioned = keys_stay lists c w.0 keys keeps.provisioned;
      kept = record_stays c w.0 r keeps.kept;
    }

-- a list that contains something contains its image once it is mapped
image_in : {X Y : Type 0} (f : X → Y) (xs : List X) (x : X) → Contains xs x →
    Contains (map f xs) (f x)
image_in f xs x (k, l, is) =
    (k, (let long = length-map xs f in omega arith), get_or-map f xs k x (f x) l ∙ ap f is)

-- where serials rise, two records with one serial are one
same_serial : (made : List (Sealed Chain)) (one other : Sealed Chain) → SerialsRise made →
    Contains made one → Contains made other → one.serial ≡ other.serial → one ≡ other
same_serial made one other rise (k, l, is) (k', l', is') same =
    let at : get_or made k' one ≡ other = get_or_default made k' one other l' ∙ is' in
    let first = ap (λ (r : Sealed Chain). r.serial) is in
    let second = ap (λ (r : Sealed Chain). r.serial) at in
    elim (cases_lt k k') [
      | inl low ↦ absurd (omega (arith, rise k k' one low l'))
      | inr high ↦ elim (cases_lt k' k) [
        | inl low ↦ absurd (omega (arith, rise k' k one low l))
        | inr high' ↦
            let place : k ≡ k' = omega arith in
            sym is ∙ ap (λ (i : ℕ). get_or made i one) place ∙ at
      ]
    ]

-- the record that is found for the blob of one that is kept is that one
found_again : (d : ListDevice) (ledger : Ledger) (keys : Keys) (r : Sealed Chain) →
    Noted d ledger → Contains d.made.records r → record_of keys d.made.records (blob_of keys r) ≡ Some r
found_again d ledger keys r noted there =
    let one = found keys d.made.records (blob_of keys r) (image_in (blob_of keys) d.made.records r there) in
    let s = one.0 in
    let fits = All-contains InRange d.made.records r noted.in_range there in
    let fits' = All-contains InRange d.made.records s noted.in_range one.1 in
    let both : ◌≡◌ {A = Option (Sealed (List ℕ))} (Some (with_chain_by value s))
    (Some (with_chain_by value r)) =
    sym (parsed-blob_of keys s fits')
    ∙ ap (parsed keys) one.2
    ∙ parsed-blob_of keys r fits in
    let shown : with_chain_by value s ≡ with_chain_by value r = cc in
    let serials = ap (λ (x : Sealed (List ℕ)). x.serial) shown in
    one.3 ∙ ap (λ (x : Sealed Chain). Some x) (same_serial d.made.records s r noted.rise one.1 there serials)

-- what opening comes to with these keys
pub unseal_with : (d : ListDevice) (keys : Keys) (bytes : List ℕ) → d.keys ≡ Some keys →
    act lists (Unseal bytes) d
    ≡ (d, open_blob lists d (content d.counters) (record_of keys d.made.records bytes))
unseal_with d keys bytes is =
    ap (λ (k : Option Keys). with_keys unseals.Unprovisioned d (unseal lists bytes d) k) is

pub check_with : (d : ListDevice) (keys : Keys) (bytes : List ℕ) → d.keys ≡ Some keys →
    act lists (CheckNext bytes) d
    ≡ (d, open_blob lists d (λ r. awaited d.counters r.counter) (record_of keys d.made.records bytes))
check_with d keys bytes is =
    ap (λ (k : Option Keys). with_keys unseals.Unprovisioned d (check_next lists bytes d) k) is

-- a device keeps a record under its keys, by some ledger that has what it knows
abbrev pub KeptBy : Keys → Sealed Chain → ListDevice → Type 0
KeptBy keys r d = (ledger : Ledger) × Keeps keys r (d, ledger)

-- a plan leaves it kept, wherever its fuse stops it
pub kept_later : {X : Type 0} (keys : Keys) (r : Sealed Chain) (plan : Plan Command Reply X)
    (before : Fused ListDevice) → KeptBy keys r before.state →
    KeptBy keys r (fused costs (act lists) plan before).0.state
kept_later keys r plan before kept =
    let short = limited costs plan before.fuse in
    let w : ListDevice × Ledger = (before.state, kept.0) in
    let end = (run (noted lists) short w).0 in
    let keeps : Keeps keys r end =
    plans_keep (noted lists) (Keeps keys r) (keeps_stays keys r) short w kept.1 in
    let same : end.0 ≡ (run (act lists) short before.state).0 =
    (unnoted lists short before.state kept.0).0 in
    subst (KeptBy keys r) same (end.1, keeps)

-- what the blob of a record that is kept comes to, whatever is looked for in it
kept_opens : {X : Type 0} (d : ListDevice) (keys : Keys) (r : Sealed Chain)
    (find : Sealed Chain → Option X) → KeptBy keys r d →
    open_blob lists d find (record_of keys d.made.records (blob_of keys r)) ≡ open_record lists d find r
kept_opens d keys r find kept =
    let keeps = kept.1 in
    ap (open_blob lists d find) (found_again d kept.0 keys r keeps.known keeps.kept)

-- ---- what sealing leaves

-- bytes were sealed with these keys: the record is kept, and its blob was given
pub record SealedNow (d : ListDevice) (bytes : List ℕ) (counter : Option ℕ) (ahead : Bool)
    (blob : List ℕ) (end : ListDevice × Result (List ℕ) seals.Refusal) : Type 0
  where
    pub keys : Keys
    pub borne : Option Bearing
    pub provisioned : d.keys ≡ Some keys
    pub borne_is : bearing d.counters counter ahead ≡ Ok borne
    pub after : end.0 ≡ with_record lists (new_record lists bytes borne d) d
    pub is : blob ≡ blob_of keys (new_record lists bytes borne d)

pub sealed_now : (d : ListDevice) (bytes : List ℕ) (counter : Option ℕ) (ahead : Bool)
    (blob : List ℕ) → (act lists (Seal bytes counter ahead) d).1 ≡ Ok blob →
    SealedNow d bytes counter ahead blob (act lists (Seal bytes counter ahead) d)
sealed_now d bytes counter ahead blob ok = by_keys d.keys refl ok where
  by_borne : (keys : Keys) → d.keys ≡ Some keys → (o : Result (Option Bearing) seals.Refusal) →
      seal_bearing d.serial d.counters bytes counter ahead ≡ o →
      (seal_with lists bytes d keys o).1 ≡ Ok blob →
      SealedNow d bytes counter ahead blob (seal_with lists bytes d keys o)
  by_borne keys is (Err refusal) why ok = absurd (cc)
  by_borne keys is (Ok borne) why ok =
      let told = sealable d.serial d.counters bytes counter ahead borne why in
      record {
        keys = keys;
        borne = borne;
        provisioned = is;
        borne_is = told.borne_is;
        after = refl;
        is = (let same : blob_of keys (new_record lists bytes borne d) ≡ blob = cc in sym same);
      }

  by_keys : (k : Option Keys) → d.keys ≡ k →
      (with_keys seals.Unprovisioned d (seal lists bytes counter ahead d) k).1 ≡ Ok blob →
      SealedNow d bytes counter ahead blob
      (with_keys seals.Unprovisioned d (seal lists bytes counter ahead d) k)
  by_keys None is ok = absurd (cc)
  by_keys (Some keys) is ok =
      by_borne keys is (seal_bearing d.serial d.counters bytes counter ahead) refl ok

-- a blob that was given is that of a record, bound to the present chain, that the device keeps
pub record Given (d : ListDevice) (bytes : List ℕ) (counter : Option ℕ) (ahead : Bool)
    (blob : List ℕ) (after : ListDevice) : Type 0
  where
    pub keys : Keys
    pub sealed : Sealed Chain
    pub kept : KeptBy keys sealed after
    pub is : blob_of keys sealed ≡ blob
    pub chain : sealed.chain ≡ present_chain lists d
    pub bytes_are : sealed.bytes ≡ bytes
    pub borne_is : bearing d.counters counter ahead ≡ Ok sealed.counter

pub given_now : (d : ListDevice) (ledger : Ledger) (bytes : List ℕ) (counter : Option ℕ)
    (ahead : Bool) (blob : List ℕ) → Noted d ledger →
    (act lists (Seal bytes counter ahead) d).1 ≡ Ok blob →
    Given d bytes counter ahead blob (act lists (Seal bytes counter ahead) d).0
given_now d ledger bytes counter ahead blob known ok =
    let now = sealed_now d bytes counter ahead blob ok in
    let r = new_record lists bytes now.borne d in
    let w = (noted lists (Seal bytes counter ahead) (d, ledger)).0 in
    record {
      keys = now.keys;
      sealed = r;
      kept = (
        w.1,
        record {
          known = stays_noted (Seal bytes counter ahead) d ledger known;
          provisioned = keys_stay lists (Seal bytes counter ahead) d now.keys now.provisioned;
          kept = subst (λ (e : ListDevice). Contains e.made.records r) (sym now.after)
              (Contains-push d.made.records r);
        },
      );
      is = sym now.is;
      chain = refl;
      bytes_are = refl;
      borne_is = now.borne_is;
    }

-- after a plan it still is, wherever the fuse stops it
pub given_later : {X : Type 0} (d : ListDevice) (bytes : List ℕ) (counter : Option ℕ)
    (ahead : Bool) (blob : List ℕ) (plan : Plan Command Reply X) (before : Fused ListDevice) →
    Given d bytes counter ahead blob before.state →
    Given d bytes counter ahead blob (fused costs (act lists) plan before).0.state
given_later d bytes counter ahead blob plan before given =
    record {
      keys = given.keys;
      sealed = given.sealed;
      kept = kept_later given.keys given.sealed plan before given.kept;
      is = given.is;
      chain = given.chain;
      bytes_are = given.bytes_are;
      borne_is = given.borne_is;
    }

-- what unsealing it comes to, and trying it for the next value of its counter
pub unseals_given : (d : ListDevice) (bytes : List ℕ) (counter : Option ℕ) (ahead : Bool)
    (blob : List ℕ) (later : ListDevice) → (given : Given d bytes counter ahead blob later) →
    act lists (Unseal blob) later
    ≡ (later, open_record lists later (content later.counters) given.sealed)
unseals_given d bytes counter ahead blob later given =
    let keeps = given.kept.1 in
    let opens = unseal_with later given.keys (blob_of given.keys given.sealed) keeps.provisioned
    ∙ ap (λ (reply : Result (List ℕ) unseals.Refusal).
    let end : ListDevice × Result (List ℕ) unseals.Refusal = (later, reply) in end)
    (kept_opens later given.keys given.sealed (content later.counters) given.kept) in
    subst (λ (p : List ℕ). act lists (Unseal p) later
    ≡ (later, open_record lists later (content later.counters) given.sealed)) given.is opens

pub tries_given : (d : ListDevice) (bytes : List ℕ) (counter : Option ℕ) (ahead : Bool)
    (blob : List ℕ) (later : ListDevice) → (given : Given d bytes counter ahead blob later) →
    act lists (CheckNext blob) later
    ≡ (later, open_record lists later (λ r. awaited later.counters r.counter) given.sealed)
tries_given d bytes counter ahead blob later given =
    let keeps = given.kept.1 in
    let opens = check_with later given.keys (blob_of given.keys given.sealed) keeps.provisioned
    ∙ ap (λ (reply : Result ℕ unseals.Refusal).
    let end : ListDevice × Result ℕ unseals.Refusal = (later, reply) in end)
    (kept_opens later given.keys given.sealed (λ r. awaited later.counters r.counter)
    given.kept) in
    subst (λ (p : List ℕ). act lists (CheckNext p) later
    ≡ (later, open_record lists later (λ r. awaited later.counters r.counter) given.sealed))
    given.is opens

-- what a record comes to in its chain, and in another
pub in_chain : {X : Type 0} (d : ListDevice) (find : Sealed Chain → Option X)
    (r : Sealed Chain) → r.chain ≡ present_chain lists d →
    open_record lists d find r ≡ ok_or (find r) unseals.WrongCounter
in_chain {X} d find r is =
    ap (λ (b : Bool). let reply : Result X unseals.Refusal =
    if b then ok_or (find r) unseals.WrongCounter else Err unseals.WrongChain in reply)
    (subst (λ (chain : Chain). same_chain r.chain chain ≡ true) is (chain_itself r.chain))

pub in_other : {X : Type 0} (d : ListDevice) (find : Sealed Chain → Option X)
    (r : Sealed Chain) → r.chain ≢ present_chain lists d →
    open_record lists d find r ≡ Err unseals.WrongChain
in_other d find r other = by_test (same_chain r.chain (present_chain lists d)) refl where
  by_test : (b : Bool) → same_chain r.chain (present_chain lists d) ≡ b →
      open_record lists d find r ≡ Err unseals.WrongChain
  by_test true is = absurd (other (same_chain_is r.chain (present_chain lists d) is))
  by_test false is = rw is refl

-- what a record holds is answered by whether its counter stands
ok_content : (stands : Bool) (bytes : List ℕ) →
    ◌≡◌ {A = Result (List ℕ) unseals.Refusal}
    (ok_or (if stands then Some bytes else None) unseals.WrongCounter)
    (if stands then Ok bytes else Err unseals.WrongCounter)
ok_content true bytes = refl
ok_content false bytes = refl

-- what is borne by a blob that was given
borne_by_given : (d : ListDevice) (bytes : List ℕ) (counter : Option ℕ) (ahead : Bool)
    (blob : List ℕ) (later : ListDevice) (borne : Option Bearing) →
    (given : Given d bytes counter ahead blob later) →
    bearing d.counters counter ahead ≡ Ok borne → given.sealed.counter ≡ borne
borne_by_given d bytes counter ahead blob later borne given is =
    let both : ◌≡◌ {A = Result (Option Bearing) seals.Refusal} (Ok given.sealed.counter) (Ok borne) =
    sym given.borne_is ∙ is in
    cc

-- in its chain it opens where its counter stands
pub given_opens : (d : ListDevice) (bytes : List ℕ) (counter : Option ℕ) (ahead : Bool)
    (blob : List ℕ) (later : ListDevice) (borne : Option Bearing) →
    Given d bytes counter ahead blob later → bearing d.counters counter ahead ≡ Ok borne →
    present_chain lists later ≡ present_chain lists d →
    act lists (Unseal blob) later ≡ (
      later,
      (if counter_stands later.counters borne then Ok bytes else Err unseals.WrongCounter),
    )
given_opens d bytes counter ahead blob later borne given is same =
    let r = given.sealed in
    let one = borne_by_given d bytes counter ahead blob later borne given is in
    unseals_given d bytes counter ahead blob later given
    ∙ ap (λ (reply : Result (List ℕ) unseals.Refusal).
    let end : ListDevice × Result (List ℕ) unseals.Refusal = (later, reply) in end)
    (in_chain later (content later.counters) r (given.chain ∙ sym same)
    ∙ ok_content (counter_stands later.counters r.counter) r.bytes
    ∙ ap (λ (o : Option Bearing). answered (counter_stands later.counters o) r.bytes) one
    ∙ ap (answered (counter_stands later.counters borne)) given.bytes_are) where
      answered : Bool → List ℕ → Result (List ℕ) unseals.Refusal
      answered stands bytes = if stands then Ok bytes else Err unseals.WrongCounter

-- and is tried by whether its counter awaits its value
pub given_tried : (d : ListDevice) (bytes : List ℕ) (counter : Option ℕ) (ahead : Bool)
    (blob : List ℕ) (later : ListDevice) (borne : Option Bearing) →
    Given d bytes counter ahead blob later → bearing d.counters counter ahead ≡ Ok borne →
    present_chain lists later ≡ present_chain lists d →
    act lists (CheckNext blob) later
    ≡ (later, ok_or (awaited later.counters borne) unseals.WrongCounter)
given_tried d bytes counter ahead blob later borne given is same =
    let r = given.sealed in
    let one = borne_by_given d bytes counter ahead blob later borne given is in
    tries_given d bytes counter ahead blob later given
    ∙ ap (λ (reply : Result ℕ unseals.Refusal).
    let end : ListDevice × Result ℕ unseals.Refusal = (later, reply) in end)
    (in_chain later (λ r. awaited later.counters r.counter) r (given.chain ∙ sym same)
    ∙ ap (λ (o : Option Bearing). ok_or (awaited later.counters o) unseals.WrongCounter) one)

-- in another chain it is refused for that
pub given_elsewhere : (d : ListDevice) (bytes : List ℕ) (counter : Option ℕ) (ahead : Bool)
    (blob : List ℕ) (later : ListDevice) → Given d bytes counter ahead blob later →
    present_chain lists later ≢ present_chain lists d →
    (act lists (Unseal blob) later ≡ (later, Err unseals.WrongChain))
    × (act lists (CheckNext blob) later ≡ (later, Err unseals.WrongChain))
given_elsewhere d bytes counter ahead blob later given other =
    let r = given.sealed in
    let elsewhere : r.chain ≢ present_chain lists later =
    λ same. other (sym same ∙ given.chain) in (
      unseals_given d bytes counter ahead blob later given
          ∙ ap (λ (reply : Result (List ℕ) unseals.Refusal).
          let end : ListDevice × Result (List ℕ) unseals.Refusal = (later, reply) in end)
          (in_other later (content later.counters) r elsewhere),
      tries_given d bytes counter ahead blob later given
          ∙ ap (λ (reply : Result ℕ unseals.Refusal).
          let end : ListDevice × Result ℕ unseals.Refusal = (later, reply) in end)
          (in_other later (λ r. awaited later.counters r.counter) r elsewhere),
    )

-- ---- what opens

-- bytes that are the blob of no record are no blob
pub no_blob : (d : ListDevice) (keys : Keys) (bytes : List ℕ) → d.keys ≡ Some keys →
    ((r : Sealed Chain) → Contains d.made.records r → blob_of keys r ≢ bytes) →
    (act lists (Unseal bytes) d ≡ (d, Err unseals.NotBlob))
    × (act lists (CheckNext bytes) d ≡ (d, Err unseals.NotBlob))
no_blob d keys bytes is other =
    let none = not_found keys d.made.records bytes other in (
      unseal_with d keys bytes is
          ∙ ap (λ (o : Option (Sealed Chain)).
          let end : ListDevice × Result (List ℕ) unseals.Refusal =
          (d, open_blob lists d (content d.counters) o) in end) none,
      check_with d keys bytes is
          ∙ ap (λ (o : Option (Sealed Chain)).
          let end : ListDevice × Result ℕ unseals.Refusal =
          (d, open_blob lists d (λ r. awaited d.counters r.counter) o) in end) none,
    )

-- where what is borne stands, a counter in use has its value
stands_in : {H : Type 0} (c : Counters H) (borne : Option Bearing) →
    counter_stands c borne ≡ true → IfSome borne (Stands c)
stands_in c None is = tt
stands_in {H} c (Some b) is = by_slot (counter_at c b.id) refl is where
  by_slot : (o : Option (Counter H)) → counter_at c b.id ≡ o → has_value b.value o ≡ true →
      Stands c b
  by_slot None at is = absurd (let clash : false ≡ true = is in cc)
  by_slot (Some counter) at is =
      record { counter = counter; in_use = at; value = eqb-true counter.value b.value is }

-- what a record opened to
opened_record : (d : ListDevice) (r : Sealed Chain) (bytes : List ℕ) →
    open_record lists d (content d.counters) r ≡ Ok bytes →
    (r.chain ≡ present_chain lists d) × IfSome r.counter (Stands d.counters) × (r.bytes ≡ bytes)
opened_record d r bytes ok =
    by_tests (same_chain r.chain (present_chain lists d)) refl
    (counter_stands d.counters r.counter) refl ok where
      by_tests : (a : Bool) → same_chain r.chain (present_chain lists d) ≡ a →
          (b : Bool) → counter_stands d.counters r.counter ≡ b →
          (let reply : Result (List ℕ) unseals.Refusal = if a
          then ok_or (if b then Some r.bytes else None) unseals.WrongCounter
          else Err unseals.WrongChain in reply) ≡ Ok bytes →
          (r.chain ≡ present_chain lists d) × IfSome r.counter (Stands d.counters)
          × (r.bytes ≡ bytes)
      by_tests false one b two is = absurd (cc)
      by_tests true one false two is = absurd (cc)
      by_tests true one true two is = (
        same_chain_is r.chain (present_chain lists d) one,
        stands_in d.counters r.counter two,
        (let same : r.bytes ≡ bytes = cc in same),
      )

pub what_opened : (d : ListDevice) (bytes content : List ℕ) →
    (act lists (Unseal bytes) d).1 ≡ Ok content → OpensTo d bytes content
what_opened d bytes given ok = by_keys d.keys refl ok where
  by_found : (keys : Keys) → d.keys ≡ Some keys → (o : Option (Sealed Chain)) →
      IfSome o (λ r. Contains d.made.records r × (blob_of keys r ≡ bytes)) →
      open_blob lists d (content d.counters) o ≡ Ok given → OpensTo d bytes given
  by_found keys is None one ok = absurd (cc)
  by_found keys is (Some r) one ok =
      let opened = opened_record d r given ok in
      record {
        keys = keys;
        sealed = r;
        provisioned = is;
        kept = one.0;
        is = one.1;
        chain = opened.0;
        counter = opened.1;
        bytes_are = opened.2;
      }

  by_keys : (k : Option Keys) → d.keys ≡ k →
      (with_keys unseals.Unprovisioned d (unseal lists bytes d) k).1 ≡ Ok given →
      OpensTo d bytes given
  by_keys None is ok = absurd (cc)
  by_keys (Some keys) is ok =
      by_found keys is (record_of keys d.made.records bytes) (found_in keys d.made.records bytes) ok
