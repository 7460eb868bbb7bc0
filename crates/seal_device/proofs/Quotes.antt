-- Quotes on both platforms: where the strings that were hashed are clean and the quote is not forged,
-- a check says the same of it.
use Rattle.std.proofs.Common.{◌≡◌, ◌≢◌, ℕ, zero, suc, List, [], ◌∷◌, ◌++◌, Bool, true, false}
use Rattle.std.proofs.Common.{Option, Some, refl, sym, ap, ◌∙◌, subst, arith, Contains, ◌&&◌}
use Rattle.std.specs.Prelude.{◌↔◌, Result, Ok, bytes_eq, take}
use Rattle.std.specs.List.{list_any}
use Rattle.std.proofs.lemmas.Bool.{and_parts}
use Rattle.std.proofs.lemmas.List.Elements.{All-contains, All-contains_itself, Contains-append_left}
use Rattle.std.proofs.lemmas.List.Elements.{Contains-append_right}
use Rattle.std.proofs.lemmas.List.Folds.{list_any_at}
use Rattle.std.proofs.lemmas.Slice.Eq.{bytes_eq-Decides}
use Rattle.std.proofs.Math.Seq.{take-append_seam}
use Rattle.flk_base.specs.Plan.{Plan}
use Rattle.flk_base.specs.PlanLaws.{plans_keep}
use Rattle.flk_base.specs.Stop.{limited, Fused, fused}
use Rattle.flk_hmac.specs.Quotes.{quote_tag, quote_of}
use Rattle.tpm_state.specs.Chain.{Chain, value}
use Rattle.seal_device.specs.Keys.{Keys}
use Rattle.seal_device.specs.Quoted.{Quoted, quote_bytes, is_tagged_for}
use Rattle.seal_device.specs.Quoting.{new_quote, check}
use Rattle.seal_device.specs.Sealing.{with_keys}
use Rattle.seal_device.specs.Commands.{Command, Quote, Check, Reply, act, costs}
use Rattle.seal_device.specs.Digests.{DigestDevice, digests}
use Rattle.seal_device.specs.Ledger.{Ledger, Clean, WasQuoted, strings, strings_to_check}
use Rattle.seal_device.specs.Lists.{ListDevice, lists, same_chain, same_quote, is_said}
use Rattle.seal_device.specs.Agreement.{digested, Noted, given_quotes}
use Rattle.seal_device.specs.Refusals.Quote as quotes
use Rattle.seal_device.proofs.Alike.{Alike, with_keys_alike}
use Rattle.seal_device.proofs.Effects.{after_each}
use Rattle.seal_device.proofs.Known.{Hashed, still_hashed}
use Rattle.seal_device.proofs.Openings.{same_chain_is, chain_itself}
use Rattle.seal_device.proofs.Values.{apart, length-value}

-- ---- quotes are compared

-- quotes that the test says are the same are one
pub same_quote_is : (one other : Quoted Chain) → same_quote one other ≡ true → one ≡ other
same_quote_is one other is =
    let parts = and_parts (same_chain one.chain other.chain) (bytes_eq one.nonce other.nonce) is in
    let chains : one.chain ≡ other.chain = same_chain_is one.chain other.chain parts.0 in
    let nonces : one.nonce ≡ other.nonce = (bytes_eq-Decides one.nonce other.nonce).0 parts.1 in
    one_quote one.chain other.chain one.nonce other.nonce chains nonces where
      one_quote : (c d : Chain) (n m : List ℕ) → c ≡ d → n ≡ m →
          ◌≡◌ {A = Quoted Chain} (record { chain = c; nonce = n }) (record { chain = d; nonce = m })
      one_quote c d n m chains nonces = rw (chains, nonces) refl

-- and a quote is the same as itself
pub quote_itself : (q : Quoted Chain) → same_quote q q ≡ true
quote_itself q =
    let chains : same_chain q.chain q.chain ≡ true = chain_itself q.chain in
    let nonces : bytes_eq q.nonce q.nonce ≡ true = (bytes_eq-Decides q.nonce q.nonce).1 refl in
    rw (chains, nonces) refl

-- a quote that is found among others is one of them
any_is : (q : Quoted Chain) (made : List (Quoted Chain)) → list_any (same_quote q) made ≡ true →
    Contains made q
any_is q [] told = absurd (let clash : false ≡ true = told in cc)
any_is q (other ∷ made) told =
    by_test (same_quote q other) refl (any_is q made) told where
      by_test : (b : Bool) → same_quote q other ≡ b →
          (list_any (same_quote q) made ≡ true → Contains made q) →
          list_any (same_quote q) (other ∷ made) ≡ true → Contains (other ∷ made) q
      by_test true is rest told =
          let same : q ≡ other = same_quote_is q other is in
          (0, omega arith, sym same)
      by_test false is rest told =
          let later : list_any (same_quote q) made ≡ true = rw is at told in
          let there = rest later in
          (suc there.0, (let low = there.1 in omega arith), there.2)

-- and one of them is found
any_has : (q : Quoted Chain) (made : List (Quoted Chain)) → Contains made q →
    list_any (same_quote q) made ≡ true
any_has q made (k, l, is) =
    list_any_at (same_quote q) made k q l
    (subst (λ (s : Quoted Chain). same_quote q s ≡ true) (sym is) (quote_itself q))

-- what a check says by lists
pub said_is : (keys : Keys) (made : List (Quoted Chain)) (claim : Quoted Chain) (bytes : List ℕ) →
    is_said keys made claim bytes ≡ true →
    Contains made claim × (quote_bytes keys claim ≡ bytes)
said_is keys made claim bytes told =
    let parts = and_parts (list_any (same_quote claim) made) (bytes_eq (quote_bytes keys claim) bytes)
    told in
    (any_is claim made parts.0, (bytes_eq-Decides (quote_bytes keys claim) bytes).0 parts.1)

pub is_said_so : (keys : Keys) (made : List (Quoted Chain)) (claim : Quoted Chain)
    (bytes : List ℕ) → Contains made claim → quote_bytes keys claim ≡ bytes →
    is_said keys made claim bytes ≡ true
is_said_so keys made claim bytes there same =
    let found : list_any (same_quote claim) made ≡ true = any_has claim made there in
    let is : bytes_eq (quote_bytes keys claim) bytes ≡ true =
    (bytes_eq-Decides (quote_bytes keys claim) bytes).1 same in
    rw (found, is) refl

-- ---- a check on both platforms

-- a quote begins with its value
value_of_quote : (keys : Keys) (q : Quoted Chain) → take 20 (quote_bytes keys q) ≡ value q.chain
value_of_quote keys q =
    ap (λ (n : ℕ). take n (quote_bytes keys q)) (sym (length-value q.chain))
    ∙ take-append_seam (value q.chain) (quote_tag keys.quoting q.nonce (value q.chain))

-- bytes that were given as a quote for a nonce are those of a quote that is kept
given_is : (keys : Keys) (made : List (Quoted Chain)) (nonce bytes : List ℕ) →
    Contains (given_quotes (Some keys) made) (nonce, bytes) →
    (q : Quoted Chain) × Contains made q × (q.nonce ≡ nonce) × (quote_bytes keys q ≡ bytes)
given_is keys [] nonce bytes (k, l, is) = absurd (omega arith)
given_is keys (q ∷ made) nonce bytes (zero, l, is) =
    let nonces : q.nonce ≡ nonce = ap (λ (pair : List ℕ × List ℕ). pair.0) is in
    let quotes : quote_bytes keys q ≡ bytes = ap (λ (pair : List ℕ × List ℕ). pair.1) is in
    (q, (0, omega arith, refl), nonces, quotes)
given_is keys (q ∷ made) nonce bytes (suc k, l, is) =
    let rest = given_is keys made nonce bytes (k, omega arith, is) in
    (rest.0, (suc rest.1.0, (let low = rest.1.1 in omega arith), rest.1.2), rest.2, rest.3)

-- both of two tests, of which the second fails
and_false : (a : Bool) → (a && false) ≡ false
and_false true = refl
and_false false = refl

-- the two say the same
said_alike : (keys : Keys) (claim : Quoted Chain) (bytes : List ℕ) (d : ListDevice)
    (ledger : Ledger) → d.keys ≡ Some keys → Noted d ledger →
    Clean (ledger.hashed ++ strings claim.chain) → WasQuoted (Some keys) claim.nonce bytes ledger →
    bytes_eq (quote_bytes keys claim) bytes ≡ is_said keys d.made.quotes claim bytes
said_alike keys claim bytes d ledger is noted clean was =
    by_test (bytes_eq (quote_bytes keys claim) bytes) refl where
      h : List (List ℕ)
      h = ledger.hashed ++ strings claim.chain

      by_test : (b : Bool) → bytes_eq (quote_bytes keys claim) bytes ≡ b →
          bytes_eq (quote_bytes keys claim) bytes ≡ is_said keys d.made.quotes claim bytes
      by_test false untold =
          untold ∙ sym (ap (λ (b : Bool). list_any (same_quote claim) d.made.quotes && b) untold
          ∙ and_false (list_any (same_quote claim) d.made.quotes))
      by_test true told =
          let same : quote_bytes keys claim ≡ bytes =
          (bytes_eq-Decides (quote_bytes keys claim) bytes).0 told in
          let shown : take 20 bytes ≡ value claim.chain =
          ap (take 20) (sym same) ∙ value_of_quote keys claim in
          let tagged : is_tagged_for keys claim.nonce bytes ≡ true =
          (bytes_eq-Decides (quote_of keys.quoting claim.nonce (take 20 bytes)) bytes).1
          (ap (quote_of keys.quoting claim.nonce) shown ∙ same) in
          let all : given_quotes (Some keys) d.made.quotes ≡ ledger.quoted =
          ap (λ (k : Option Keys). given_quotes k d.made.quotes) (sym is) ∙ noted.quoted in
          let one = given_is keys d.made.quotes claim.nonce bytes
          (subst (λ (pairs : List (List ℕ × List ℕ)). Contains pairs (claim.nonce, bytes)) (sym all)
          (was tagged)) in
          let q = one.0 in
          let values : value q.chain ≡ value claim.chain =
          sym (value_of_quote keys q) ∙ ap (take 20) one.3 ∙ shown in
          let known : Hashed h q.chain =
          still_hashed ledger.hashed (strings claim.chain) q.chain
          (All-contains (λ (s : Quoted Chain). Hashed ledger.hashed s.chain) d.made.quotes q
          noted.quotes one.1) in
          let too : Hashed h claim.chain =
          λ k e l. Contains-append_right ledger.hashed (strings claim.chain) _
          (All-contains_itself (strings claim.chain) k e l) in
          let chains : q.chain ≡ claim.chain = apart h clean q.chain claim.chain known too values in
          let itself : same_quote q claim ≡ true =
          (let first : same_chain q.chain claim.chain ≡ true =
          subst (λ (chain : Chain). same_chain q.chain chain ≡ true) chains (chain_itself q.chain) in
          let second : bytes_eq q.nonce claim.nonce ≡ true =
          (bytes_eq-Decides q.nonce claim.nonce).1 one.2 in
          rw (first, second) refl) in
          let there : Contains d.made.quotes claim =
          subst (λ (s : Quoted Chain). Contains d.made.quotes s) (same_quote_is q claim itself)
          one.1 in
          told ∙ sym (is_said_so keys d.made.quotes claim bytes there same)

-- so a check is answered alike
pub check_alike : (claim : Quoted Chain) (bytes : List ℕ) (d : ListDevice) (ledger : Ledger) →
    Noted d ledger → Clean (ledger.hashed ++ strings_to_check claim.chain d.keys) →
    WasQuoted d.keys claim.nonce bytes ledger → Alike (Check claim bytes) d
check_alike claim bytes d ledger noted clean was =
    with_keys_alike quotes.Unprovisioned d _ _ d.keys (λ keys is.
    ap (λ (told : Bool).
    let end : DigestDevice × Result Bool quotes.Refusal = (digested d, Ok told) in end)
    (said_alike keys claim bytes d ledger is noted
    (subst (λ (k : Option Keys). Clean (ledger.hashed ++ strings_to_check claim.chain k)) is clean)
    (subst (λ (k : Option Keys). WasQuoted k claim.nonce bytes ledger) is was)))

-- ---- the law of quotes

-- a quote stays where it is kept
quote_stays : (c : Command) (d : ListDevice) (q : Quoted Chain) → Contains d.made.quotes q →
    Contains (act lists c d).0.made.quotes q
quote_stays c d q there =
    after_each lists c d (λ (e : ListDevice). Contains e.made.quotes q) (record {
      nothing = there;
      seeded = λ keys none. there;
      measured = λ image. there;
      extended = λ n text chain at. there;
      sealed = λ bytes counter ahead borne one ok. there;
      quoted = λ nonce one.
          Contains-append_left d.made.quotes (new_quote lists nonce d ∷ []) q there;
      created = λ one. there;
      incremented = λ id one. there;
      drawn = λ one less. there;
      powered = there;
    })

-- so it does over a plan, wherever its fuse stops it
pub quote_kept : {X : Type 0} (q : Quoted Chain) (plan : Plan Command Reply X)
    (before : Fused ListDevice) → Contains before.state.made.quotes q →
    Contains (fused costs (act lists) plan before).0.state.made.quotes q
quote_kept q plan before there =
    plans_keep (act lists) (λ (d : ListDevice). Contains d.made.quotes q)
    (λ c d one. quote_stays c d q one) (limited costs plan before.fuse) before.state there

-- no command but one adds a quote
pub quotes_stand : (c : Command) (d : ListDevice) → ((nonce : List ℕ) → c ≢ Quote nonce) →
    (act lists c d).0.made.quotes ≡ d.made.quotes
quotes_stand c d other =
    after_each lists c d (λ (e : ListDevice). e.made.quotes ≡ d.made.quotes) (record {
      nothing = refl;
      seeded = λ keys none. refl;
      measured = λ image. refl;
      extended = λ n text chain at. refl;
      sealed = λ bytes counter ahead borne one ok. refl;
      quoted = λ nonce one. absurd (other nonce one);
      created = λ one. refl;
      incremented = λ id one. refl;
      drawn = λ one less. refl;
      powered = refl;
    })

-- what a check answers by lists
check_answers : (d : ListDevice) (keys : Keys) (claim : Quoted Chain) (bytes : List ℕ) →
    d.keys ≡ Some keys →
    act lists (Check claim bytes) d ≡ (d, Ok (is_said keys d.made.quotes claim bytes))
check_answers d keys claim bytes is =
    ap (λ (k : Option Keys). with_keys quotes.Unprovisioned d (check lists claim bytes d) k) is

pub check_says : (d : ListDevice) (keys : Keys) (claim : Quoted Chain) (bytes : List ℕ) →
    d.keys ≡ Some keys →
    ((act lists (Check claim bytes) d).1 ≡ Ok true)
    ↔ (Contains d.made.quotes claim × (quote_bytes keys claim ≡ bytes))
check_says d keys claim bytes is =
    let answer : (act lists (Check claim bytes) d).1
    ≡ Ok (is_said keys d.made.quotes claim bytes) =
    ap (λ (end : ListDevice × Result Bool quotes.Refusal). end.1)
    (check_answers d keys claim bytes is) in (
      λ ok.
          let told : is_said keys d.made.quotes claim bytes ≡ true = cc in
          said_is keys d.made.quotes claim bytes told,
      λ both.
          let told : is_said keys d.made.quotes claim bytes ≡ true =
          is_said_so keys d.made.quotes claim bytes both.0 both.1 in
          answer ∙ ap (λ (b : Bool). let reply : Result Bool quotes.Refusal = Ok b in reply) told,
    )

-- and by digests
pub check_says_by_digests : (d : DigestDevice) (keys : Keys) (claim : Quoted Chain)
    (bytes : List ℕ) → d.keys ≡ Some keys →
    ((act digests (Check claim bytes) d).1 ≡ Ok true) ↔ (quote_bytes keys claim ≡ bytes)
check_says_by_digests d keys claim bytes is =
    let answer : (act digests (Check claim bytes) d).1 ≡ Ok (bytes_eq (quote_bytes keys claim) bytes) =
    ap (λ (end : DigestDevice × Result Bool quotes.Refusal). end.1)
    (ap (λ (k : Option Keys). with_keys quotes.Unprovisioned d (check digests claim bytes d) k) is) in (
      λ ok.
          let told : bytes_eq (quote_bytes keys claim) bytes ≡ true = cc in
          (bytes_eq-Decides (quote_bytes keys claim) bytes).0 told,
      λ same.
          answer ∙ ap (λ (b : Bool). let reply : Result Bool quotes.Refusal = Ok b in reply)
          ((bytes_eq-Decides (quote_bytes keys claim) bytes).1 same),
    )
