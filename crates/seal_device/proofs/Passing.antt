-- A value that a counter has passed, or reached: the blob that bears it never opens again, and is
-- never again the next one.
use Rattle.std.proofs.Common.{◌≡◌, ◌≢◌, ℕ, ◌+◌, ◌<◌, ◌≤◌, ◌⊎◌, List, Bool, true, false}
use Rattle.std.proofs.Common.{Option, Some, None, refl, ap, ◌∙◌, subst, arith, inl, inr}
use Rattle.std.specs.Prelude.{Result, Ok, Err, if◌then◌else◌}
use Rattle.std.specs.Option.{ok_or}
use Rattle.std.proofs.lemmas.Bool.{ne_eqb}
use Rattle.tpm_state.specs.Chain.{Chain}
use Rattle.tpm_state.specs.Counters.{Counter, Counters, counter_at, read, value_or_refused, Grew}
use Rattle.seal_device.specs.Sealed.{Bearing}
use Rattle.seal_device.specs.Bearings.{bearing, has_value, has_next, counter_stands, awaited}
use Rattle.seal_device.specs.Sealing.{present_chain}
use Rattle.seal_device.specs.Commands.{Unseal, CheckNext, act}
use Rattle.seal_device.specs.Lists.{ListDevice, lists, same_chain}
use Rattle.seal_device.specs.Refusals.Unseal as unseals
use Rattle.seal_device.proofs.Openings.{same_chain_is, chain_itself}
use Rattle.seal_device.proofs.Kept.{Given, given_opens, given_tried, given_elsewhere}

-- ---- what a counter has come to

-- the counter that was read has this value
read_is : {H : Type 0} (c : Counters H) (id value : ℕ) → read id c ≡ Ok value →
    (counter : Counter H) × (counter_at c id ≡ Some counter) × (counter.value ≡ value)
read_is {H} c id value is = by_slot (counter_at c id) refl is where
  by_slot : (o : Option (Counter H)) → counter_at c id ≡ o → value_or_refused o ≡ Ok value →
      (counter : Counter H) × (counter_at c id ≡ Some counter) × (counter.value ≡ value)
  by_slot None at is = absurd (cc)
  by_slot (Some counter) at is = (counter, at, (let one : counter.value ≡ value = cc in one))

-- a value that a counter has passed does not stand, however the counters grew
pub passed_for_good : {H : Type 0} (before after : Counters H) (b : Bearing) (value : ℕ) →
    Grew before after → read b.id before ≡ Ok value → b.value < value →
    counter_stands after (Some b) ≡ false
passed_for_good before after b value grew is above =
    let was = read_is before b.id value is in
    let stays = grew.stay b.id was.0 was.1 in
    let more = stays.value in
    let one = was.2 in
    ap (has_value b.value) stays.in_use
    ∙ ne_eqb stays.now.value b.value (λ same. absurd (omega arith))

-- nor is a value the next one that a counter has reached
pub reached_for_good : {H : Type 0} (before after : Counters H) (b : Bearing) (value : ℕ) →
    Grew before after → read b.id before ≡ Ok value → b.value ≤ value →
    awaited after (Some b) ≡ None
reached_for_good before after b value grew is there =
    let was = read_is before b.id value is in
    let stays = grew.stay b.id was.0 was.1 in
    let more = stays.value in
    let one = was.2 in
    ap (λ (next : Bool). let number : Option ℕ = if next then Some b.id else None in number)
    (ap (has_next b.value) stays.in_use
    ∙ ne_eqb (stays.now.value + 1) b.value (λ same. absurd (omega arith)))

-- ---- in any chain

-- two chains are one, or they are not
one_or_two : (one other : Chain) → (one ≡ other) ⊎ (one ≢ other)
one_or_two one other = by_test (same_chain one other) refl where
  by_test : (b : Bool) → same_chain one other ≡ b → (one ≡ other) ⊎ (one ≢ other)
  by_test true is = inl (same_chain_is one other is)
  by_test false is =
      inr (λ same. let itself : same_chain one other ≡ true =
      subst (λ (chain : Chain). same_chain one chain ≡ true) same (chain_itself one) in cc)

-- a blob does not open while the counter that it bears does not stand
pub opens_nowhere : (d : ListDevice) (bytes : List ℕ) (counter : Option ℕ) (ahead : Bool)
    (blob : List ℕ) (later : ListDevice) (borne : Option Bearing) →
    Given d bytes counter ahead blob later → bearing d.counters counter ahead ≡ Ok borne →
    counter_stands later.counters borne ≡ false → (content : List ℕ) →
    (act lists (Unseal blob) later).1 ≢ Ok content
opens_nowhere d bytes counter ahead blob later borne given is fallen content ok =
    elim (one_or_two (present_chain lists later) (present_chain lists d)) [
      | inl same ↦
          let told : (act lists (Unseal blob) later).1 ≡ Err unseals.WrongCounter =
          ap (λ (end : ListDevice × Result (List ℕ) unseals.Refusal). end.1)
          (given_opens d bytes counter ahead blob later borne given is same)
          ∙ ap (λ (stands : Bool). let reply : Result (List ℕ) unseals.Refusal =
          if stands then Ok bytes else Err unseals.WrongCounter in reply) fallen in
          cc
      | inr other ↦
          let told : (act lists (Unseal blob) later).1 ≡ Err unseals.WrongChain =
          ap (λ (end : ListDevice × Result (List ℕ) unseals.Refusal). end.1)
          (given_elsewhere d bytes counter ahead blob later given other).0 in
          cc
    ]

-- nor is it the next one while the counter that it bears does not await its value
pub next_nowhere : (d : ListDevice) (bytes : List ℕ) (counter : Option ℕ) (ahead : Bool)
    (blob : List ℕ) (later : ListDevice) (borne : Option Bearing) →
    Given d bytes counter ahead blob later → bearing d.counters counter ahead ≡ Ok borne →
    awaited later.counters borne ≡ None → (id : ℕ) →
    (act lists (CheckNext blob) later).1 ≢ Ok id
next_nowhere d bytes counter ahead blob later borne given is gone id ok =
    elim (one_or_two (present_chain lists later) (present_chain lists d)) [
      | inl same ↦
          let told : (act lists (CheckNext blob) later).1 ≡ Err unseals.WrongCounter =
          ap (λ (end : ListDevice × Result ℕ unseals.Refusal). end.1)
          (given_tried d bytes counter ahead blob later borne given is same)
          ∙ ap (λ (o : Option ℕ). let reply : Result ℕ unseals.Refusal =
          ok_or o unseals.WrongCounter in reply) gone in
          cc
      | inr other ↦
          let told : (act lists (CheckNext blob) later).1 ≡ Err unseals.WrongChain =
          ap (λ (end : ListDevice × Result ℕ unseals.Refusal). end.1)
          (given_elsewhere d bytes counter ahead blob later given other).1 in
          cc
    ]
