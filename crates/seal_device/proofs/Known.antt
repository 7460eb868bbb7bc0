-- The ledger has what a device of lists knows, after each command.
use Rattle.std.proofs.Common.{◌≡◌, ◌≢◌, ◌-◌, ℕ, zero, suc, ◌+◌, ◌<◌, ◌≤◌, List, [], ◌∷◌, ◌++◌, Bool}
use Rattle.std.proofs.Common.{true, false, eqb, Option, Some, None, refl, sym, ap, ◌∙◌, subst}
use Rattle.std.proofs.Common.{inl, inr, length, map, get_or, All, Contains, Result, Ok, Err, arith}
use Rattle.std.specs.Prelude.{slice_get, IfSome, if◌then◌else◌}
use Rattle.std.proofs.lemmas.Option.{slice_get_within, get_or_from_slice_get}
use Rattle.std.proofs.lemmas.List.Elements.{All-set, All-map, All-append, All-push, All-tail}
use Rattle.std.proofs.lemmas.List.Elements.{All-weaker, All-contains_itself}
use Rattle.std.proofs.lemmas.List.Elements.{Contains-append_left, Contains-append_right}
use Rattle.std.proofs.lemmas.Bool.{cases_lt}
use Rattle.std.proofs.lemmas.List.{length-set, get_or-set_same, append-nil, map-append}
use Rattle.std.proofs.lemmas.List.{get_or_append_left, get_or-append_right}
use Rattle.std.proofs.Common.{length-append}
use Rattle.tpm_state.specs.Chain.{Start, Chain, From, ◌▷◌, value, start_value, power_start}
use Rattle.tpm_state.specs.Chain.{register_numbers, register_count}
use Rattle.tpm_state.specs.Counters.{Counter, Counters, counter_at, no_counters, create, increment}
use Rattle.tpm_state.specs.Counters as counting
use Rattle.tpm_state.specs.CounterLaws.{create_in_range, increment_in_range}
use Rattle.seal_device.specs.Keys.{Keys, keys_of}
use Rattle.seal_device.specs.Sealed.{Bearing, BearingInRange, Sealed, InRange}
use Rattle.seal_device.specs.Quoted.{Quoted, quote_bytes}
use Rattle.seal_device.specs.Rules.{launch_start, launch_register}
use Rattle.seal_device.specs.Drawing.{draw, last_word, random_word}
use Rattle.seal_device.specs.Sealing.{provision, with_keys, present_chain, new_record, with_record}
use Rattle.seal_device.specs.Sealing.{seal, seal_with, seal_bearing, last_serial, unseal, check_next}
use Rattle.seal_device.specs.Quoting.{new_quote, with_quote, quote, check}
use Rattle.seal_device.specs.Commands.{Command, Provision, Measure, Extend, ReadRegister, Seal, Unseal}
use Rattle.seal_device.specs.Commands.{CheckNext, Quote, Check, NewCounter, ReadCounter, Increment}
use Rattle.seal_device.specs.Commands.{Random, PowerOn}
use Rattle.seal_device.specs.Commands.{act, extend, with_chain, first_chains, blank}
use Rattle.seal_device.specs.Ledger.{Ledger, ledger_after, hashed_by, strings_to_extend, strings_at}
use Rattle.seal_device.specs.Ledger.{strings, strings_to_check, if_given, no_ledger}
use Rattle.seal_device.specs.Lists.{ListDevice, Made, lists, blob_of}
use Rattle.seal_device.specs.Agreement.{Knows, Noted, InLedger, OwnersInLedger, blobs, given_quotes}
use Rattle.seal_device.specs.Agreement.{SerialsRise}
use Rattle.seal_device.specs.Refusals.Seal as seals
use Rattle.seal_device.specs.Refusals.Unseal as unseals
use Rattle.seal_device.specs.Refusals.Quote as quotes
use Rattle.seal_device.specs.Refusals.Random as randoms
use Rattle.seal_device.proofs.Sealable.{sealable, borne_by, borne_in_range}
use Rattle.seal_device.proofs.Owners.{none_in_use, create_owners, increment_owners}

-- the strings of a chain are among those hashed
abbrev pub Hashed : List (List ℕ) → Chain → Type 0
Hashed hashed chain = All (Contains hashed) (strings chain)

-- it is kept by a command
abbrev pub StaysNoted : Command → ListDevice → Ledger → Type 0
StaysNoted c d ledger = Noted (act lists c d).0 (ledger_after lists c d ledger)

-- the ledger with more strings, with more blobs, and with more quotes
abbrev pub with_more : Ledger → List (List ℕ) → List (List ℕ) → List (List ℕ × List ℕ) → Ledger
with_more ledger more blobs quotes =
    record {
      hashed = ledger.hashed ++ more;
      made = ledger.made ++ blobs;
      quoted = ledger.quoted ++ quotes;
    }

-- what was hashed stays hashed
pub still_hashed : (h more : List (List ℕ)) (chain : Chain) → Hashed h chain → Hashed (h ++ more) chain
still_hashed h more chain known = λ k d l. Contains-append_left h more _ (known k d l)

-- more strings were hashed, and nothing else happened
still_noted : (d : ListDevice) (ledger : Ledger) (more : List (List ℕ)) → Noted d ledger →
    Noted d (with_more ledger more [] [])
still_noted d ledger more noted =
    record {
      chains = λ k e l. still_hashed ledger.hashed more (get_or d.chains k e) (noted.chains k e l);
      owners = λ id counter at.
          still_hashed ledger.hashed more counter.owner (noted.owners id counter at);
      counters = noted.counters;
      records = λ k e l.
          still_hashed ledger.hashed more (get_or d.made.records k e).chain (noted.records k e l);
      quotes = λ k e l.
          still_hashed ledger.hashed more (get_or d.made.quotes k e).chain (noted.quotes k e l);
      made = noted.made ∙ sym (append-nil ledger.made);
      quoted = noted.quoted ∙ sym (append-nil ledger.quoted);
      no_keys = noted.no_keys;
      in_range = noted.in_range;
      serials = noted.serials;
      rise = noted.rise;
      next = noted.next;
    }

-- chains and counters are others, of which all is known, and random words were drawn
parts_noted : (d : ListDevice) (ledger : Ledger) (chains : List Chain) (counters : Counters Chain)
    (drawn : ℕ) → Noted d ledger → All (Hashed ledger.hashed) chains →
    OwnersInLedger ledger counters → counting.InRange counters →
    Noted (record d { chains = chains; counters = counters; drawn = drawn }) ledger
parts_noted d ledger chains counters drawn noted known owners range =
    record {
      chains = known;
      owners = owners;
      counters = range;
      records = noted.records;
      quotes = noted.quotes;
      made = noted.made;
      quoted = noted.quoted;
      no_keys = noted.no_keys;
      in_range = noted.in_range;
      serials = noted.serials;
      rise = noted.rise;
      next = noted.next;
    }

-- the chains alone
chains_noted : (d : ListDevice) (ledger : Ledger) (chains : List Chain) → Noted d ledger →
    All (Hashed ledger.hashed) chains → Noted (record d { chains = chains }) ledger
chains_noted d ledger chains noted known =
    parts_noted d ledger chains d.counters d.drawn noted known noted.owners noted.counters

-- the counters alone
counters_noted : (d : ListDevice) (ledger : Ledger) (counters : Counters Chain) →
    Noted d ledger → OwnersInLedger ledger counters → counting.InRange counters →
    Noted (record d { counters = counters }) ledger
counters_noted d ledger counters noted owners range =
    parts_noted d ledger d.chains counters d.drawn noted noted.chains owners range

-- a chain of which all is known comes into a register
chain_noted : (d : ListDevice) (ledger : Ledger) (r : ℕ) (chain : Chain) → Noted d ledger →
    Hashed ledger.hashed chain → Noted (with_chain d r chain) ledger
chain_noted d ledger r chain noted known =
    chains_noted d ledger _ noted
    (All-set (Hashed ledger.hashed) d.chains r chain known noted.chains)

-- a chain with one text more, whose strings were hashed
one_more : (h : List (List ℕ)) (chain : Chain) (text : List ℕ) → Hashed h chain →
    Hashed (h ++ strings_to_extend (value chain) text) (chain ▷ text)
one_more h chain text known =
    let more = strings_to_extend (value chain) text in
    All-append (Contains (h ++ more)) (strings chain) more (still_hashed h more chain known)
    (λ k d l. Contains-append_right h more _ (All-contains_itself more k d l))

-- a start has no strings
pub none_hashed : (h : List (List ℕ)) (start : Start) → Hashed h (From start)
none_hashed h start = λ k d l. absurd (omega arith)

-- what each of a list has, and something else, has what stands at a place, or that where none does
at_or : {X : Type 0} (P : X → Type 0) (xs : List X) (i : ℕ) (x : X) → All P xs → P x →
    P (get_or xs i x)
at_or P [] i x each other = other
at_or P (y ∷ ys) zero x each other = each 0 y (omega arith)
at_or P (y ∷ ys) (suc i) x each other = at_or P ys i x (All-tail P y ys each) other

-- the strings of register 17's chain were hashed
pub present_hashed : (d : ListDevice) (ledger : Ledger) → Noted d ledger →
    Hashed ledger.hashed (present_chain lists d)
present_hashed d ledger noted =
    at_or (Hashed ledger.hashed) d.chains launch_register (From launch_start) noted.chains
    (none_hashed ledger.hashed launch_start)

-- ---- registers

measure_noted : (image : List ℕ) (d : ListDevice) (ledger : Ledger) → Noted d ledger →
    StaysNoted (Measure image) d ledger
measure_noted image d ledger noted =
    let more = strings_to_extend (start_value launch_start) image in
    chain_noted d (with_more ledger more [] []) launch_register (From launch_start ▷ image)
    (still_noted d ledger more noted)
    (one_more ledger.hashed (From launch_start) image (none_hashed ledger.hashed launch_start))

extend_noted : (r : ℕ) (text : List ℕ) (d : ListDevice) (ledger : Ledger) → Noted d ledger →
    StaysNoted (Extend r text) d ledger
extend_noted r text d ledger noted = by_chain (slice_get d.chains r) refl where
  by_chain : (o : Option Chain) → slice_get d.chains r ≡ o →
      Noted (extend lists r text d o).0 (with_more ledger (strings_at lists text o) [] [])
  by_chain None is = still_noted d ledger [] noted
  by_chain (Some chain) is =
      let more = strings_to_extend (value chain) text in
      let at = get_or_from_slice_get d.chains r chain chain is in
      let known : Hashed ledger.hashed chain =
      subst (Hashed ledger.hashed) at
      (noted.chains r chain (slice_get_within d.chains r chain is)) in
      chain_noted d (with_more ledger more [] []) r (chain ▷ text) (still_noted d ledger more noted)
      (one_more ledger.hashed chain text known)

-- at power-on each chain is a start
pub blank_chains : (h : List (List ℕ)) → All (Hashed h) (first_chains lists)
blank_chains h =
    All-map (Hashed h) (λ r. From (power_start r)) register_numbers
    (λ k d l. none_hashed h (power_start (get_or register_numbers k d)))

-- an empty ledger has what a device knows that was never used
pub blank_noted : Noted (blank lists) no_ledger
blank_noted =
    record {
      chains = blank_chains [];
      owners = λ id counter at. absurd (none_in_use id counter at);
      counters = record {
        count = refl;
        values = λ id counter at. absurd (none_in_use id counter at);
        largest = omega arith;
      };
      records = λ k e l. absurd (omega arith);
      quotes = λ k e l. absurd (omega arith);
      made = refl;
      quoted = refl;
      no_keys = λ none. refl;
      in_range = λ k e l. absurd (omega arith);
      serials = λ k e l. absurd (omega arith);
      rise = λ i j r low there. absurd (omega arith);
      next = omega arith;
    }

-- ---- keys

provision_noted : (seed : List ℕ) (d : ListDevice) (ledger : Ledger) → Noted d ledger →
    StaysNoted (Provision seed) d ledger
provision_noted seed d ledger noted = by_keys d.keys refl where
  by_keys : (k : Option Keys) → d.keys ≡ k →
      Noted (provision (keys_of seed) d k).0 (with_more ledger [] [] [])
  by_keys (Some keys) is = still_noted d ledger [] noted
  by_keys None is =
      let none = noted.no_keys is in
      still_noted (record d { keys = Some (keys_of seed) }) ledger [] (record {
        chains = noted.chains;
        owners = noted.owners;
        counters = noted.counters;
        records = noted.records;
        quotes = noted.quotes;
        made = ap (λ (made : Made). map (blob_of (keys_of seed)) made.records) none
            ∙ sym (ap (λ (k : Option Keys). blobs k d.made.records) is)
            ∙ noted.made;
        quoted = ap (λ (made : Made). given_quotes (Some (keys_of seed)) made.quotes) none
            ∙ sym (ap (λ (k : Option Keys). given_quotes k d.made.quotes) is)
            ∙ noted.quoted;
        no_keys = λ never. none;
        in_range = noted.in_range;
        serials = noted.serials;
        rise = noted.rise;
        next = noted.next;
      })

-- ---- sealing

-- serials rise up to one above all of them
rise_more : (made : List (Sealed Chain)) (r : Sealed Chain) → SerialsRise made →
    All (λ s. s.serial < r.serial) made → SerialsRise (made ++ r ∷ [])
rise_more made r rise below i j d low there =
    let long = length-append made (r ∷ []) in
    elim (cases_lt j (length made)) [
      | inl inside ↦
          rw (
            get_or_append_left made (r ∷ []) d i (omega arith),
            get_or_append_left made (r ∷ []) d j inside,
          ) (rise i j d low inside)
      | inr last ↦
          let place : j - length made ≡ 0 = omega arith in
          let at : get_or (made ++ r ∷ []) j d ≡ r =
          get_or-append_right made (r ∷ []) (length made) j d refl last
          ∙ ap (λ (k : ℕ). get_or (r ∷ []) k d) place in
          rw (get_or_append_left made (r ∷ []) d i (omega arith), at) (below i d (omega arith))
    ]

-- a record more, in register 17's chain
record_noted : (bytes : List ℕ) (borne : Option Bearing) (d : ListDevice) (ledger : Ledger)
    (keys : Keys) → d.keys ≡ Some keys → Noted d ledger → length bytes ≤ 2048 →
    IfSome borne BearingInRange → d.serial < last_serial →
    Noted (with_record lists (new_record lists bytes borne d) d)
    (with_more ledger [] (blob_of keys (new_record lists bytes borne d) ∷ []) [])
record_noted bytes borne d ledger keys is noted short fits below =
    let r = new_record lists bytes borne d in
    let next = noted.next in
    record {
      chains = λ k e l. still_hashed ledger.hashed [] (get_or d.chains k e) (noted.chains k e l);
      owners = λ id counter at.
          still_hashed ledger.hashed [] counter.owner (noted.owners id counter at);
      counters = noted.counters;
      records =
          All-push (λ s. Hashed (ledger.hashed ++ []) s.chain) d.made.records r
          (λ k e l. still_hashed ledger.hashed [] (get_or d.made.records k e).chain (noted.records k e l))
          (still_hashed ledger.hashed [] r.chain (present_hashed d ledger noted));
      quotes = λ k e l.
          still_hashed ledger.hashed [] (get_or d.made.quotes k e).chain (noted.quotes k e l);
      made =
          ap (λ (k : Option Keys). blobs k (d.made.records ++ r ∷ [])) is
          ∙ map-append (blob_of keys) d.made.records (r ∷ [])
          ∙ ap (λ (all : List (List ℕ)). all ++ blob_of keys r ∷ [])
          (sym (ap (λ (k : Option Keys). blobs k d.made.records) is) ∙ noted.made);
      quoted = noted.quoted ∙ sym (append-nil ledger.quoted);
      no_keys = λ none. absurd (let clash : None ≡ Some keys = sym none ∙ is in cc);
      in_range =
          All-push InRange d.made.records r noted.in_range
          (record { serial = next; counter = fits; bytes = short });
      serials =
          All-push (λ s. s.serial < d.serial + 1) d.made.records r
          (All-weaker (λ s. s.serial < d.serial) (λ s. s.serial < d.serial + 1)
          (λ s low. omega arith) d.made.records noted.serials)
          (omega arith);
      rise = rise_more d.made.records r noted.rise noted.serials;
      next = omega arith;
    }

seal_noted : (bytes : List ℕ) (counter : Option ℕ) (ahead : Bool) (d : ListDevice)
    (ledger : Ledger) → Noted d ledger → StaysNoted (Seal bytes counter ahead) d ledger
seal_noted bytes counter ahead d ledger noted = by_keys d.keys refl where
  by_borne : (keys : Keys) → d.keys ≡ Some keys → (o : Result (Option Bearing) seals.Refusal) →
      seal_bearing d.serial d.counters bytes counter ahead ≡ o →
      Noted (seal_with lists bytes d keys o).0
      (with_more ledger [] (if_given (seal_with lists bytes d keys o).1) [])
  by_borne keys is (Err refusal) why = still_noted d ledger [] noted
  by_borne keys is (Ok borne) why =
      let told = sealable d.serial d.counters bytes counter ahead borne why in
      let fits = borne_in_range d.counters borne noted.counters
      (borne_by d.counters counter ahead borne noted.counters told.borne_is) in
      let next = noted.next in
      let other = told.free in
      record_noted bytes borne d ledger keys is noted told.short fits (omega arith)

  by_keys : (k : Option Keys) → d.keys ≡ k →
      Noted (with_keys seals.Unprovisioned d (seal lists bytes counter ahead d) k).0
      (with_more ledger []
      (if_given (with_keys seals.Unprovisioned d (seal lists bytes counter ahead d) k).1) [])
  by_keys None is = still_noted d ledger [] noted
  by_keys (Some keys) is =
      by_borne keys is (seal_bearing d.serial d.counters bytes counter ahead) refl

-- a command that uses the keys, and leaves what is known with them and without
with_keys_noted : {X E : Type 0} (refusal : E) (d : ListDevice) (ledger : Ledger)
    (f : Keys → ListDevice × Result X E) (k : Option Keys) → Noted d ledger →
    ((keys : Keys) → Noted (f keys).0 ledger) → Noted (with_keys refusal d f k).0 ledger
with_keys_noted refusal d ledger f None noted done = noted
with_keys_noted refusal d ledger f (Some keys) noted done = done keys

-- ---- quoting

-- a quote more, of register 17's chain
made_noted : (nonce : List ℕ) (d : ListDevice) (ledger : Ledger) (keys : Keys) →
    d.keys ≡ Some keys → Noted d ledger →
    Noted (with_quote lists (new_quote lists nonce d) d)
    (with_more ledger [] [] ((nonce, quote_bytes keys (new_quote lists nonce d)) ∷ []))
made_noted nonce d ledger keys is noted =
    let q = new_quote lists nonce d in
    record {
      chains = λ k e l. still_hashed ledger.hashed [] (get_or d.chains k e) (noted.chains k e l);
      owners = λ id counter at.
          still_hashed ledger.hashed [] counter.owner (noted.owners id counter at);
      counters = noted.counters;
      records = λ k e l.
          still_hashed ledger.hashed [] (get_or d.made.records k e).chain (noted.records k e l);
      quotes =
          All-push (λ (s : Quoted Chain). Hashed (ledger.hashed ++ []) s.chain) d.made.quotes q
          (λ k e l. still_hashed ledger.hashed [] (get_or d.made.quotes k e).chain (noted.quotes k e l))
          (still_hashed ledger.hashed [] q.chain (present_hashed d ledger noted));
      made = noted.made ∙ sym (append-nil ledger.made);
      quoted =
          ap (λ (k : Option Keys). given_quotes k (d.made.quotes ++ q ∷ [])) is
          ∙ map-append (λ (s : Quoted Chain). (s.nonce, quote_bytes keys s)) d.made.quotes (q ∷ [])
          ∙ ap (λ (all : List (List ℕ × List ℕ)). all ++ (nonce, quote_bytes keys q) ∷ [])
          (sym (ap (λ (k : Option Keys). given_quotes k d.made.quotes) is) ∙ noted.quoted);
      no_keys = λ none. absurd (let clash : None ≡ Some keys = sym none ∙ is in cc);
      in_range = noted.in_range;
      serials = noted.serials;
      rise = noted.rise;
      next = noted.next;
    }

quote_noted : (nonce : List ℕ) (d : ListDevice) (ledger : Ledger) → Noted d ledger →
    StaysNoted (Quote nonce) d ledger
quote_noted nonce d ledger noted = by_keys d.keys refl where
  by_keys : (k : Option Keys) → d.keys ≡ k →
      Noted (with_keys quotes.Unprovisioned d (quote lists nonce d) k).0
      (with_more ledger [] []
      (map (λ bytes. (nonce, bytes))
      (if_given (with_keys quotes.Unprovisioned d (quote lists nonce d) k).1)))
  by_keys None is = still_noted d ledger [] noted
  by_keys (Some keys) is = made_noted nonce d ledger keys is noted

-- ---- counters and random words

new_counter_noted : (d : ListDevice) (ledger : Ledger) → Noted d ledger →
    Noted (act lists NewCounter d).0 ledger
new_counter_noted d ledger noted =
    counters_noted d ledger (create (present_chain lists d) d.counters).0 noted
    (create_owners (InLedger ledger) (present_chain lists d) d.counters noted.owners
    (present_hashed d ledger noted))
    (create_in_range (present_chain lists d) d.counters noted.counters)

increment_noted : (id : ℕ) (d : ListDevice) (ledger : Ledger) → Noted d ledger →
    Noted (act lists (Increment id) d).0 ledger
increment_noted id d ledger noted =
    counters_noted d ledger (increment lists.same id (present_chain lists d) d.counters).0 noted
    (increment_owners (InLedger ledger) lists.same id (present_chain lists d) d.counters noted.owners)
    (increment_in_range lists.same id (present_chain lists d) d.counters noted.counters)

random_noted : (d : ListDevice) (ledger : Ledger) → Noted d ledger →
    Noted (act lists Random d).0 ledger
random_noted d ledger noted =
    with_keys_noted randoms.Unprovisioned d ledger (draw d) d.keys noted
    (λ keys. by_last keys (eqb d.drawn last_word)) where
      by_last : (keys : Keys) (last : Bool) →
          Noted ((let end : ListDevice × Result (List ℕ) randoms.Refusal = if last
          then (d, Err randoms.RandomEnd)
          else (record d { drawn = d.drawn + 1 }, Ok (random_word keys d.drawn)) in end).0) ledger
      by_last keys true = noted
      by_last keys false =
          parts_noted d ledger d.chains d.counters (d.drawn + 1) noted noted.chains noted.owners
          noted.counters

-- each command keeps it
pub stays_noted : (c : Command) (d : ListDevice) (ledger : Ledger) → Noted d ledger →
    StaysNoted c d ledger
stays_noted (Provision seed) d ledger noted = provision_noted seed d ledger noted
stays_noted (Measure image) d ledger noted = measure_noted image d ledger noted
stays_noted (Extend r text) d ledger noted = extend_noted r text d ledger noted
stays_noted (ReadRegister r) d ledger noted = still_noted d ledger [] noted
stays_noted (Seal bytes counter ahead) d ledger noted =
    seal_noted bytes counter ahead d ledger noted
stays_noted (Unseal bytes) d ledger noted =
    let same = still_noted d ledger [] noted in
    with_keys_noted unseals.Unprovisioned d (with_more ledger [] [] []) (unseal lists bytes d) d.keys
    same (λ keys. same)
stays_noted (CheckNext bytes) d ledger noted =
    let same = still_noted d ledger [] noted in
    with_keys_noted unseals.Unprovisioned d (with_more ledger [] [] []) (check_next lists bytes d)
    d.keys same (λ keys. same)
stays_noted (Quote nonce) d ledger noted = quote_noted nonce d ledger noted
stays_noted (Check claim bytes) d ledger noted =
    let more = strings_to_check claim.chain d.keys in
    let same = still_noted d ledger more noted in
    with_keys_noted quotes.Unprovisioned d (with_more ledger more [] []) (check lists claim bytes d)
    d.keys same (λ keys. same)
stays_noted NewCounter d ledger noted =
    new_counter_noted d (with_more ledger [] [] []) (still_noted d ledger [] noted)
stays_noted (ReadCounter id) d ledger noted = still_noted d ledger [] noted
stays_noted (Increment id) d ledger noted =
    increment_noted id d (with_more ledger [] [] []) (still_noted d ledger [] noted)
stays_noted Random d ledger noted =
    random_noted d (with_more ledger [] [] []) (still_noted d ledger [] noted)
stays_noted PowerOn d ledger noted =
    chains_noted d (with_more ledger [] [] []) (first_chains lists) (still_noted d ledger [] noted)
    (blank_chains (ledger.hashed ++ []))

-- ---- the ledger gains no more

-- a register's new chain, with one text more, is one whose last strings the device knows
last_known : (d : ListDevice) (r : ℕ) (chain : Chain) (text : List ℕ) → r < length d.chains →
    All (Knows (with_chain d r (chain ▷ text))) (strings_to_extend (value chain) text)
last_known d r chain text there = λ k e l.
    let more = strings_to_extend (value chain) text in
    let long = length-set d.chains r (chain ▷ text) in (
      chain ▷ text,
      (r, omega arith, get_or-set_same d.chains r (chain ▷ text) (chain ▷ text) there),
      Contains-append_right (strings chain) more (get_or more k e) (All-contains_itself more k e l),
    )

-- what a command hashes the device knows after it, but for a check
pub known_after : (c : Command) (d : ListDevice) → length d.chains ≡ register_count →
    ((claim : Quoted Chain) (bytes : List ℕ) → c ≢ Check claim bytes) →
    All (Knows (act lists c d).0) (hashed_by lists c d)
known_after (Check claim bytes) d count other = absurd (other claim bytes refl)
known_after (Measure image) d count other =
    last_known d launch_register (From launch_start) image (omega arith)
known_after (Extend r text) d count other = by_chain (slice_get d.chains r) refl where
  by_chain : (o : Option Chain) → slice_get d.chains r ≡ o →
      All (Knows (extend lists r text d o).0) (strings_at lists text o)
  by_chain None is = λ k e l. absurd (omega arith)
  by_chain (Some chain) is = last_known d r chain text (slice_get_within d.chains r chain is)
known_after c d count other = λ k e l. absurd (omega arith)
