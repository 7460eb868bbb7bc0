-- What the commands that a device was given since it was new have to do with the quotes that it keeps.
use Rattle.std.proofs.Common.{◌≡◌, ◌⊎◌, inl, inr, ℕ, zero, suc, ◌+◌, ◌<◌, Bool, true, false, eqb, List, [], ◌∷◌, ◌++◌, map, length, get_or}
use Rattle.std.proofs.Common.{Option, Some, None, refl, sym, ap, ◌∙◌, subst, arith, append_assoc, append-nil}
use Rattle.std.specs.Prelude.{◌↔◌, All, Contains, Result, Ok, Err, slice_get, if◌then◌else◌}
use Rattle.std.specs.Prelude.{slice_set as set}
use Rattle.std.proofs.lemmas.Bool.{eqb-true, eqb-false}
use Rattle.std.proofs.lemmas.List.{get_or-set_same, get_or-set_other}
use Rattle.std.proofs.lemmas.List.Elements.{All-nil, All-cons, All-head, All-tail}
use Rattle.std.proofs.lemmas.List.Elements.{Contains-append_left, Contains-append_right, Contains-append_cases}
use Rattle.std.proofs.lemmas.Option.{slice_get_cases, slice_get_within, get_or_from_slice_get}
use Rattle.tpm_state.specs.Chain.{Start, Zeros, Ones, Chain, From, ◌▷◌, register_count}
use Rattle.tpm_state.specs.Sessions.{Session, pal_text, closing, with_texts, session_chain}
use Rattle.seal_device.specs.Keys.{Keys, keys_of}
use Rattle.seal_device.specs.Quoted.{Quoted, quote_bytes}
use Rattle.seal_device.specs.Quoting.{new_quote, quote, check}
use Rattle.seal_device.specs.Rules.{launch_register, launch_start}
use Rattle.seal_device.specs.Sealed.{Bearing}
use Rattle.seal_device.specs.Sealing.{present_chain, provision, with_keys, seal, unseal, check_next}
use Rattle.seal_device.specs.Sealing.{seal_with, seal_bearing}
use Rattle.seal_device.specs.Drawing.{draw, last_word, random_word}
use Rattle.seal_device.specs.Commands.{Command, Provision, Measure, Extend, ReadRegister, Seal, Unseal}
use Rattle.seal_device.specs.Commands.{CheckNext, Quote, Check, NewCounter, ReadCounter, Increment}
use Rattle.seal_device.specs.Commands.{Random, PowerOn, act, blank, extend}
use Rattle.seal_device.specs.Lists.{ListDevice, lists}
use Rattle.seal_device.specs.Refusals.Quote as quotes
use Rattle.seal_device.specs.Refusals.Seal as seals
use Rattle.seal_device.specs.Refusals.Unseal as unseals
use Rattle.seal_device.specs.Refusals.Random as randoms
use Rattle.seal_device.proofs.Effects.{after_each}
use Rattle.seal_device.proofs.Quotes.{check_says}
use Rattle.seal_device.proofs.Registers.{count_kept}
use Rattle.seal_device.proofs.Serials.{keys_stay}
use Rattle.run_laws.specs.Histories.{device_after, restarts, text_for_17, texts_for_17, quote_of_session, HeldAndQuoted}

-- ---- commands one after another

-- commands, and then others
after-append : (d : ListDevice) (commands others : List Command) →
    device_after d (commands ++ others) ≡ device_after (device_after d commands) others
after-append d [] others = refl
after-append d (c ∷ commands) others = after-append (act lists c d).0 commands others

-- there are as many registers as there were
count_after : (d : ListDevice) (commands : List Command) → length d.chains ≡ register_count →
    length (device_after d commands).chains ≡ register_count
count_after d [] count = count
count_after d (c ∷ commands) count =
    count_after (act lists c d).0 commands (count_kept lists c d count)

-- keys that are there stay
keys_after : (d : ListDevice) (commands : List Command) (keys : Keys) → d.keys ≡ Some keys →
    (device_after d commands).keys ≡ Some keys
keys_after d [] keys is = is
keys_after d (c ∷ commands) keys is =
    keys_after (act lists c d).0 commands keys (keys_stay lists c d keys is)

-- ---- quotes

-- a quote stays where it is kept
quote_stays : (c : Command) (d : ListDevice) (q : Quoted Chain) → Contains d.made.quotes q →
    Contains (act lists c d).0.made.quotes q
quote_stays c d q there =
    after_each lists c d (λ (e : ListDevice). Contains e.made.quotes q) (record {
      nothing = there;
      seeded = λ keys none. there;
      measured = λ image. there;
      extended = λ n text chain at. there;
      sealed = λ bytes counter ahead borne one ok. there;
      quoted = λ nonce one.
          Contains-append_left d.made.quotes (new_quote lists nonce d ∷ []) q there;
      created = λ one. there;
      incremented = λ id one. there;
      drawn = λ one less. there;
      powered = there;
    })

quotes_after : (d : ListDevice) (commands : List Command) (q : Quoted Chain) →
    Contains d.made.quotes q → Contains (device_after d commands).made.quotes q
quotes_after d [] q there = there
quotes_after d (c ∷ commands) q there =
    quotes_after (act lists c d).0 commands q (quote_stays c d q there)

-- the quote that is made is kept
quote_made : (d : ListDevice) (keys : Keys) (nonce : List ℕ) → d.keys ≡ Some keys →
    Contains (act lists (Quote nonce) d).0.made.quotes (new_quote lists nonce d)
quote_made d keys nonce is =
    subst (λ (k : Option Keys).
    Contains (with_keys quotes.Unprovisioned d (quote lists nonce d) k).0.made.quotes
    (new_quote lists nonce d))
    (sym is)
    (Contains-append_right d.made.quotes (new_quote lists nonce d ∷ []) (new_quote lists nonce d)
    (0, omega arith, refl))

-- without keys none is made
none_made : (d : ListDevice) (nonce : List ℕ) → d.keys ≡ None → (act lists (Quote nonce) d).0 ≡ d
none_made d nonce none =
    ap (λ (k : Option Keys). (with_keys quotes.Unprovisioned d (quote lists nonce d) k).0) none

-- one that is kept after a command was kept before it, or is of the chain that was there
quote_before : (c : Command) (d : ListDevice) (q : Quoted Chain) →
    Contains (act lists c d).0.made.quotes q →
    Contains d.made.quotes q ⊎ ((c ≡ Quote q.nonce) × (present_chain lists d ≡ q.chain))
quote_before c d q =
    after_each lists c d (λ (e : ListDevice). Contains e.made.quotes q →
    Contains d.made.quotes q ⊎ ((c ≡ Quote q.nonce) × (present_chain lists d ≡ q.chain))) (record {
      nothing = λ there. inl there;
      seeded = λ keys none there. inl there;
      measured = λ image there. inl there;
      extended = λ n text chain at there. inl there;
      sealed = λ bytes counter ahead borne one ok there. inl there;
      quoted = λ nonce one there. by_place nonce one
          (Contains-append_cases d.made.quotes (new_quote lists nonce d ∷ []) q there);
      created = λ one there. inl there;
      incremented = λ id one there. inl there;
      drawn = λ one less there. inl there;
      powered = λ there. inl there;
    }) where
      by_place : (nonce : List ℕ) → c ≡ Quote nonce →
          Contains d.made.quotes q ⊎ Contains (new_quote lists nonce d ∷ []) q →
          Contains d.made.quotes q ⊎ ((c ≡ Quote q.nonce) × (present_chain lists d ≡ q.chain))
      by_place nonce one (inl there) = inl there
      by_place nonce one (inr (k, l, is)) =
          let new : new_quote lists nonce d ≡ q = only_one (new_quote lists nonce d) q (k, l, is) in
          inr (
            one ∙ ap (λ (s : Quoted Chain). Quote s.nonce) new,
            ap (λ (s : Quoted Chain). s.chain) new,
          ) where
            only_one : (new old : Quoted Chain) → Contains (new ∷ []) old → new ≡ old
            only_one new old (zero, l, is) = is
            only_one new old (suc k, l, is) = absurd (omega arith)

-- of these commands, given to this device, one made the quote
record IsMade (q : Quoted Chain) (d : ListDevice) (commands : List Command) : Type 0 where
  before : List Command
  after : List Command
  keys : Keys
  whole : commands ≡ before ++ Quote q.nonce ∷ after
  chain : present_chain lists (device_after d before) ≡ q.chain
  provisioned : (device_after d before).keys ≡ Some keys

-- a quote that is kept was kept before, or is made by one of the commands
quote_from : (q : Quoted Chain) (d : ListDevice) (commands : List Command) →
    Contains (device_after d commands).made.quotes q →
    Contains d.made.quotes q ⊎ IsMade q d commands
quote_from q d [] there = inl there
quote_from q d (c ∷ commands) there = by_rest (quote_from q (act lists c d).0 commands there) where
  by_keys : (k : Option Keys) → d.keys ≡ k → c ≡ Quote q.nonce → present_chain lists d ≡ q.chain →
      Contains (act lists c d).0.made.quotes q → Contains d.made.quotes q ⊎ IsMade q d (c ∷ commands)
  by_keys None none one chain later =
      let same : (act lists c d).0 ≡ d =
      ap (λ (e : Command). (act lists e d).0) one ∙ none_made d q.nonce none in
      inl (subst (λ (e : ListDevice). Contains e.made.quotes q) same later)
  by_keys (Some keys) is one chain later = inr (record {
    before = [];
    after = commands;
    keys = keys;
    whole = ap (λ (e : Command). e ∷ commands) one;
    chain = chain;
    provisioned = is;
  })

  by_first : Contains (act lists c d).0.made.quotes q →
      Contains d.made.quotes q ⊎ ((c ≡ Quote q.nonce) × (present_chain lists d ≡ q.chain)) →
      Contains d.made.quotes q ⊎ IsMade q d (c ∷ commands)
  by_first later (inl there) = inl there
  by_first later (inr (one, chain)) = by_keys d.keys refl one chain later

  by_rest : Contains (act lists c d).0.made.quotes q ⊎ IsMade q (act lists c d).0 commands →
      Contains d.made.quotes q ⊎ IsMade q d (c ∷ commands)
  by_rest (inl later) = by_first later (quote_before c d q later)
  by_rest (inr made) = inr (record {
    before = c ∷ made.before;
    after = made.after;
    keys = made.keys;
    whole = ap (λ (rest : List Command). c ∷ rest) made.whole;
    chain = made.chain;
    provisioned = made.provisioned;
  })

-- and one that is made is kept
made_kept : (d : ListDevice) (before after : List Command) (keys : Keys) (nonce : List ℕ) →
    (device_after d before).keys ≡ Some keys →
    Contains (device_after d (before ++ Quote nonce ∷ after)).made.quotes
    (new_quote lists nonce (device_after d before))
made_kept d before after keys nonce is =
    subst (λ (e : ListDevice).
    Contains e.made.quotes (new_quote lists nonce (device_after d before)))
    (sym (after-append d before (Quote nonce ∷ after)))
    (quotes_after (act lists (Quote nonce) (device_after d before)).0 after
    (new_quote lists nonce (device_after d before)) (quote_made (device_after d before) keys nonce is))

-- ---- register 17

-- the texts of a chain, in their order, and its start
abbrev texts_of : Chain → List (List ℕ)
texts_of (From start) = []
texts_of (chain ▷ text) = texts_of chain ++ text ∷ []

abbrev start_of : Chain → Start
start_of (From start) = start
start_of (chain ▷ text) = start_of chain

texts_of-with_texts : (chain : Chain) (texts : List (List ℕ)) →
    texts_of (with_texts chain texts) ≡ texts_of chain ++ texts
texts_of-with_texts chain [] = sym (append-nil (texts_of chain))
texts_of-with_texts chain (text ∷ texts) =
    texts_of-with_texts (chain ▷ text) texts ∙ append_assoc (texts_of chain) (text ∷ []) texts

start_of-with_texts : (chain : Chain) (texts : List (List ℕ)) →
    start_of (with_texts chain texts) ≡ start_of chain
start_of-with_texts chain [] = refl
start_of-with_texts chain (text ∷ texts) = start_of-with_texts (chain ▷ text) texts

with_texts-append : (chain : Chain) (one other : List (List ℕ)) →
    with_texts chain (one ++ other) ≡ with_texts (with_texts chain one) other
with_texts-append chain [] other = refl
with_texts-append chain (text ∷ one) other = with_texts-append (chain ▷ text) one other

-- what a session's chain is after its image
session_is : (s : Session) →
    session_chain s ≡ with_texts (From Zeros ▷ s.image)
    (map pal_text s.texts ++ closing s.inputs s.outputs s.end s.nonce)
session_is s =
    sym (with_texts-append (From Zeros ▷ s.image) (map pal_text s.texts)
    (closing s.inputs s.outputs s.end s.nonce))

-- a command that uses the keys leaves the chains, where what is or was given them does
with_keys_chains : {X E : Type 0} (refusal : E) (d : ListDevice) (f : Keys → ListDevice × Result X E)
    (k : Option Keys) → ((keys : Keys) → (f keys).0.chains ≡ d.chains) →
    (with_keys refusal d f k).0.chains ≡ d.chains
with_keys_chains refusal d f None same = refl
with_keys_chains refusal d f (Some keys) same = same keys

-- so do sealing, drawing, and the taking of a seed
seal_chains : (bytes : List ℕ) (d : ListDevice) (keys : Keys)
    (o : Result (Option Bearing) seals.Refusal) →
    (seal_with lists bytes d keys o).0.chains ≡ d.chains
seal_chains bytes d keys (Ok borne) = refl
seal_chains bytes d keys (Err refusal) = refl

draw_chains : (d : ListDevice) (keys : Keys) → (draw d keys).0.chains ≡ d.chains
draw_chains d keys = by_last (eqb d.drawn last_word) where
  by_last : (last : Bool) →
      (let end : ListDevice × Result (List ℕ) randoms.Refusal = if last
      then (d, Err randoms.RandomEnd)
      else (record d { drawn = d.drawn + 1 }, Ok (random_word keys d.drawn)) in end).0.chains
      ≡ d.chains
  by_last true = refl
  by_last false = refl

provision_chains : (keys : Keys) (d : ListDevice) (k : Option Keys) →
    (provision keys d k).0.chains ≡ d.chains
provision_chains keys d None = refl
provision_chains keys d (Some others) = refl

-- register 17's chain by the chains of all
abbrev chain_in : List Chain → Chain
chain_in chains = get_or chains launch_register (From launch_start)

-- an extend of one register makes of register 17's chain
extend_within : (r : ℕ) (text : List ℕ) (d : ListDevice) → length d.chains ≡ register_count →
    (o : Option Chain) → slice_get d.chains r ≡ o → (b : Bool) → eqb r launch_register ≡ b →
    chain_in (extend lists r text d o).0.chains
    ≡ with_texts (chain_in d.chains) (if b then text ∷ [] else [])
extend_within r text d count None at false is = refl
extend_within r text d count None at true is =
    let same : r ≡ launch_register = eqb-true r launch_register is in
    elim (slice_get_cases d.chains r).1 [
      | inl inside ↦ absurd (let clash : None ≡ Some inside.0 = sym at ∙ inside.2 in cc)
      | inr past ↦ absurd (let low = past.0 in omega (arith, low, same, count))
    ]
extend_within r text d count (Some chain) at false is =
    get_or-set_other d.chains r launch_register (chain ▷ text) (From launch_start)
    (λ same. eqb-false r launch_register is (sym same))
extend_within r text d count (Some chain) at true is =
    let same : r ≡ launch_register = eqb-true r launch_register is in
    let there : r < length d.chains = slice_get_within d.chains r chain at in
    let was : get_or d.chains r (From launch_start) ≡ chain =
    get_or_from_slice_get d.chains r chain (From launch_start) at in
    ap (λ (k : ℕ). get_or (set d.chains r (chain ▷ text)) k (From launch_start)) (sym same)
    ∙ get_or-set_same d.chains r (chain ▷ text) (From launch_start) there
    ∙ ap (λ (before : Chain). before ▷ text) (sym was
    ∙ ap (λ (k : ℕ). get_or d.chains k (From launch_start)) same)

-- what a command that does not start register 17 anew makes of its chain
one_within : (d : ListDevice) (c : Command) → length d.chains ≡ register_count →
    restarts c ≡ false →
    chain_in (act lists c d).0.chains ≡ with_texts (chain_in d.chains) (text_for_17 c)
one_within d (Measure image) count calm = absurd (cc)
one_within d PowerOn count calm = absurd (cc)
one_within d (Extend r text) count calm =
    extend_within r text d count (slice_get d.chains r) refl (eqb r launch_register) refl
one_within d (Provision seed) count calm = ap chain_in (provision_chains (keys_of seed) d d.keys)
one_within d (ReadRegister r) count calm = refl
one_within d (Seal bytes counter ahead) count calm =
    ap chain_in (with_keys_chains seals.Unprovisioned d (seal lists bytes counter ahead d) d.keys
    (λ keys. seal_chains bytes d keys (seal_bearing d.serial d.counters bytes counter ahead)))
one_within d (Unseal bytes) count calm =
    ap chain_in (with_keys_chains unseals.Unprovisioned d (unseal lists bytes d) d.keys (λ keys. refl))
one_within d (CheckNext bytes) count calm =
    ap chain_in (with_keys_chains unseals.Unprovisioned d (check_next lists bytes d) d.keys
    (λ keys. refl))
one_within d (Quote nonce) count calm =
    ap chain_in (with_keys_chains quotes.Unprovisioned d (quote lists nonce d) d.keys (λ keys. refl))
one_within d (Check claim bytes) count calm =
    ap chain_in (with_keys_chains quotes.Unprovisioned d (check lists claim bytes d) d.keys
    (λ keys. refl))
one_within d NewCounter count calm = refl
one_within d (ReadCounter id) count calm = refl
one_within d (Increment id) count calm = refl
one_within d Random count calm =
    ap chain_in (with_keys_chains randoms.Unprovisioned d (draw d) d.keys (λ keys. draw_chains d keys))

-- so it is over commands
all_within : (d : ListDevice) (commands : List Command) → length d.chains ≡ register_count →
    All (λ c. restarts c ≡ false) commands →
    chain_in (device_after d commands).chains
    ≡ with_texts (chain_in d.chains) (texts_for_17 commands)
all_within d [] count calm = refl
all_within d (c ∷ commands) count calm =
    all_within (act lists c d).0 commands (count_kept lists c d count)
    (All-tail (λ c. restarts c ≡ false) c commands calm)
    ∙ ap (λ (chain : Chain). with_texts chain (texts_for_17 commands))
    (one_within d c count (All-head (λ c. restarts c ≡ false) c commands calm))
    ∙ sym (with_texts-append (chain_in d.chains) (text_for_17 c) (texts_for_17 commands))

-- after a launch
after_launch : (d : ListDevice) (image : List ℕ) → length d.chains ≡ register_count →
    chain_in (act lists (Measure image) d).0.chains ≡ From Zeros ▷ image
after_launch d image count =
    get_or-set_same d.chains launch_register (From launch_start ▷ image) (From launch_start)
    (omega arith)

-- ---- the last start

-- of commands the last one that starts register 17 anew, with those before and after it
record LastStart (commands : List Command) : Type 0 where
  before : List Command
  start : Command
  within : List Command
  whole : commands ≡ before ++ start ∷ within
  starts : restarts start ≡ true
  undisturbed : All (λ c. restarts c ≡ false) within

last_start : (commands : List Command) → All (λ c. restarts c ≡ false) commands ⊎ LastStart commands
last_start [] = inl (All-nil (λ c. restarts c ≡ false))
last_start (c ∷ commands) = by_rest (last_start commands) where
  by_first : All (λ c. restarts c ≡ false) commands → (b : Bool) → restarts c ≡ b →
      All (λ c. restarts c ≡ false) (c ∷ commands) ⊎ LastStart (c ∷ commands)
  by_first calm true is = inr (record {
    before = [];
    start = c;
    within = commands;
    whole = refl;
    starts = is;
    undisturbed = calm;
  })
  by_first calm false is = inl (All-cons (λ c. restarts c ≡ false) c commands is calm)

  by_rest : All (λ c. restarts c ≡ false) commands ⊎ LastStart commands →
      All (λ c. restarts c ≡ false) (c ∷ commands) ⊎ LastStart (c ∷ commands)
  by_rest (inl calm) = by_first calm (restarts c) refl
  by_rest (inr last) = inr (record {
    before = c ∷ last.before;
    start = last.start;
    within = last.within;
    whole = ap (λ (rest : List Command). c ∷ rest) last.whole;
    starts = last.starts;
    undisturbed = last.undisturbed;
  })

-- where register 17 starts, at power-on and in a session
power_start_of : (texts : List (List ℕ)) (chain : Chain) → start_of chain ≡ Ones →
    start_of (with_texts chain texts) ≡ Ones
power_start_of texts chain is = start_of-with_texts chain texts ∙ is

session_start : (s : Session) → start_of (session_chain s) ≡ Zeros
session_start s =
    ap start_of (session_is s)
    ∙ start_of-with_texts (From Zeros ▷ s.image)
    (map pal_text s.texts ++ closing s.inputs s.outputs s.end s.nonce)

-- a session was held: its image was launched, and then its texts came, and nothing else
record Held (s : Session) (commands : List Command) : Type 0 where
  before : List Command
  within : List Command
  whole : commands ≡ before ++ Measure s.image ∷ within
  undisturbed : All (λ c. restarts c ≡ false) within
  extended : texts_for_17 within
      ≡ map pal_text s.texts ++ closing s.inputs s.outputs s.end s.nonce

-- the device that was never used has 24 registers
blank_count : length (blank lists).chains ≡ register_count
blank_count = refl

-- the chain of a session is there only where the session was held
held_from : (s : Session) (commands : List Command) →
    chain_in (device_after (blank lists) commands).chains ≡ session_chain s → Held s commands
held_from s commands is = by_last (last_start commands) where
  two_starts : Ones ≡ Zeros → ⊥
  two_starts clash = cc

  by_start : (last : LastStart commands) → (c : Command) → last.start ≡ c → restarts c ≡ true →
      Held s commands
  by_start last (Measure image) start starts =
      let d = device_after (blank lists) last.before in
      let count : length d.chains ≡ register_count = count_after (blank lists) last.before blank_count in
      let e = (act lists (Measure image) d).0 in
      let there : chain_in (device_after e last.within).chains ≡ session_chain s =
      ap (λ (b : ListDevice). chain_in (device_after b last.within).chains)
      (ap (λ (c : Command). (act lists c d).0) (sym start))
      ∙ ap (λ (b : ListDevice). chain_in b.chains)
      (sym (after-append (blank lists) last.before (last.start ∷ last.within)))
      ∙ ap (λ (all : List Command). chain_in (device_after (blank lists) all).chains) (sym last.whole)
      ∙ is in
      let chain : with_texts (From Zeros ▷ image) (texts_for_17 last.within)
      ≡ with_texts (From Zeros ▷ s.image)
      (map pal_text s.texts ++ closing s.inputs s.outputs s.end s.nonce) =
      ap (λ (c : Chain). with_texts c (texts_for_17 last.within)) (sym (after_launch d image count))
      ∙ sym (all_within e last.within (count_kept lists (Measure image) d count) last.undisturbed)
      ∙ there
      ∙ session_is s in
      let texts : image ∷ texts_for_17 last.within
      ≡ s.image ∷ (map pal_text s.texts ++ closing s.inputs s.outputs s.end s.nonce) =
      sym (texts_of-with_texts (From Zeros ▷ image) (texts_for_17 last.within))
      ∙ ap texts_of chain
      ∙ texts_of-with_texts (From Zeros ▷ s.image)
      (map pal_text s.texts ++ closing s.inputs s.outputs s.end s.nonce) in
      let images : image ≡ s.image = cc in
      let rest : texts_for_17 last.within
      ≡ map pal_text s.texts ++ closing s.inputs s.outputs s.end s.nonce = cc in
      record {
        before = last.before;
        within = last.within;
        whole = last.whole ∙ ap (λ (c : Command). last.before ++ c ∷ last.within)
            (start ∙ ap (λ (i : List ℕ). Measure i) images);
        undisturbed = last.undisturbed;
        extended = rest;
      }
  by_start last PowerOn start starts =
      let d = device_after (blank lists) last.before in
      let e = (act lists PowerOn d).0 in
      let there : chain_in (device_after e last.within).chains ≡ session_chain s =
      ap (λ (b : ListDevice). chain_in (device_after b last.within).chains)
      (ap (λ (c : Command). (act lists c d).0) (sym start))
      ∙ ap (λ (b : ListDevice). chain_in b.chains)
      (sym (after-append (blank lists) last.before (last.start ∷ last.within)))
      ∙ ap (λ (all : List Command). chain_in (device_after (blank lists) all).chains) (sym last.whole)
      ∙ is in
      absurd (two_starts (sym (power_start_of (texts_for_17 last.within) (chain_in e.chains) refl)
      ∙ ap start_of (sym (all_within e last.within refl last.undisturbed) ∙ there)
      ∙ session_start s))
  by_start last (Provision seed) start starts = absurd (cc)
  by_start last (Extend r text) start starts = absurd (cc)
  by_start last (ReadRegister r) start starts = absurd (cc)
  by_start last (Seal bytes counter ahead) start starts = absurd (cc)
  by_start last (Unseal bytes) start starts = absurd (cc)
  by_start last (CheckNext bytes) start starts = absurd (cc)
  by_start last (Quote nonce) start starts = absurd (cc)
  by_start last (Check claim bytes) start starts = absurd (cc)
  by_start last NewCounter start starts = absurd (cc)
  by_start last (ReadCounter id) start starts = absurd (cc)
  by_start last (Increment id) start starts = absurd (cc)
  by_start last Random start starts = absurd (cc)

  by_last : All (λ c. restarts c ≡ false) commands ⊎ LastStart commands → Held s commands
  by_last (inl calm) =
      absurd (two_starts (sym (power_start_of (texts_for_17 commands)
      (chain_in (blank lists).chains) refl)
      ∙ ap start_of (sym (all_within (blank lists) commands blank_count calm) ∙ is)
      ∙ session_start s))
  by_last (inr last) = by_start last last.start refl last.starts

-- and it is there after it
held_to : (s : Session) (before within : List Command) →
    All (λ c. restarts c ≡ false) within →
    texts_for_17 within ≡ map pal_text s.texts ++ closing s.inputs s.outputs s.end s.nonce →
    chain_in (device_after (blank lists) (before ++ Measure s.image ∷ within)).chains
    ≡ session_chain s
held_to s before within calm extended =
    let d = device_after (blank lists) before in
    let count : length d.chains ≡ register_count = count_after (blank lists) before blank_count in
    let e = (act lists (Measure s.image) d).0 in
    ap (λ (b : ListDevice). chain_in b.chains)
    (after-append (blank lists) before (Measure s.image ∷ within))
    ∙ all_within e within (count_kept lists (Measure s.image) d count) calm
    ∙ ap (λ (c : Chain). with_texts c (texts_for_17 within)) (after_launch d s.image count)
    ∙ ap (with_texts (From Zeros ▷ s.image)) extended
    ∙ sym (session_is s)

-- ---- the law

-- a quote of the session for the nonce is kept where the session was held and then quoted
kept_where_held : (commands : List Command) (keys : Keys) (s : Session) (nonce : List ℕ) →
    (device_after (blank lists) commands).keys ≡ Some keys →
    Contains (device_after (blank lists) commands).made.quotes (quote_of_session s nonce) →
    HeldAndQuoted keys s nonce commands
kept_where_held commands keys s nonce is there =
    elim (quote_from (quote_of_session s nonce) (blank lists) commands there) [
      | inl none ↦ absurd (let low = none.1 in omega arith)
      | inr made ↦
          let held = held_from s made.before made.chain in
          let here : (device_after (blank lists) made.before).keys ≡ Some made.keys =
          made.provisioned in
          let later : (device_after (blank lists) commands).keys ≡ Some made.keys =
          ap (λ (all : List Command). (device_after (blank lists) all).keys) made.whole
          ∙ ap (λ (e : ListDevice). e.keys)
          (after-append (blank lists) made.before (Quote nonce ∷ made.after))
          ∙ keys_after (device_after (blank lists) made.before) (Quote nonce ∷ made.after) made.keys
          here in
          let same : made.keys ≡ keys =
          (let both : Some made.keys ≡ Some keys = sym later ∙ is in cc) in
          record {
            before = held.before;
            within = held.within;
            after = made.after;
            whole = made.whole
                ∙ ap (λ (all : List Command). all ++ Quote nonce ∷ made.after) held.whole;
            undisturbed = held.undisturbed;
            extended = held.extended;
            provisioned =
                ap (λ (all : List Command). (device_after (blank lists) all).keys) (sym held.whole)
                ∙ here
                ∙ ap (λ (k : Keys). Some k) same;
          }
    ]

held_where_kept : (commands : List Command) (keys : Keys) (s : Session) (nonce : List ℕ) →
    HeldAndQuoted keys s nonce commands →
    Contains (device_after (blank lists) commands).made.quotes (quote_of_session s nonce)
held_where_kept commands keys s nonce held =
    let first = held.before ++ Measure s.image ∷ held.within in
    let d = device_after (blank lists) first in
    let chain : present_chain lists d ≡ session_chain s =
    held_to s held.before held.within held.undisturbed held.extended in
    let made : Contains (device_after (blank lists) (first ++ Quote nonce ∷ held.after)).made.quotes
    (new_quote lists nonce d) =
    made_kept (blank lists) first held.after keys nonce held.provisioned in
    let whole : commands ≡ first ++ Quote nonce ∷ held.after = held.whole in
    subst (λ (all : List Command).
    Contains (device_after (blank lists) all).made.quotes (quote_of_session s nonce)) (sym whole)
    (subst (λ (c : Chain).
    Contains (device_after (blank lists) (first ++ Quote nonce ∷ held.after)).made.quotes
    (record { chain = c; nonce = nonce })) chain made)

-- a check says yes exactly there, of the quote's bytes
pub says_where_held : (commands : List Command) (keys : Keys) (s : Session) (nonce bytes : List ℕ) →
    (device_after (blank lists) commands).keys ≡ Some keys →
    ((act lists (Check (quote_of_session s nonce) bytes) (device_after (blank lists) commands)).1
    ≡ Ok true)
    ↔ (HeldAndQuoted keys s nonce commands × (quote_bytes keys (quote_of_session s nonce) ≡ bytes))
says_where_held commands keys s nonce bytes is =
    let says = check_says (device_after (blank lists) commands) keys (quote_of_session s nonce) bytes
    is in (
      λ told.
          let both = says.0 told in
          (kept_where_held commands keys s nonce is both.0, both.1),
      λ held. says.1 (held_where_kept commands keys s nonce held.0, held.1),
    )
