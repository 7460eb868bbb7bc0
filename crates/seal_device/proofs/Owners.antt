-- What each counter's owner has, after a call on the counters.
use Rattle.std.proofs.Common.{◌≡◌, ℕ, ◌<◌, Bool, true, false, eqb, ltb, Some, None, length}
use Rattle.std.proofs.Common.{refl, sym, ◌∙◌, subst}
use Rattle.std.proofs.lemmas.Bool.{eqb-true, eqb-false, ltb-true, ltb-false}
use Rattle.std.proofs.lemmas.List.{get_or-replicate, get_or_past}
use Rattle.tpm_state.specs.Counters.{Counter, Counters, counter_at, with_counter, new_counter, next}
use Rattle.tpm_state.specs.Counters.{create, increment, no_counters, counter_count}
use Rattle.tpm_state.specs.CounterLaws.{in_use_within, at_same, at_other, create_cases}
use Rattle.tpm_state.specs.CounterLaws.{increment_cases}

-- of counters that were never used none is in use
none_at : {O : Type 0} (id : ℕ) → counter_at (no_counters {O = O}) id ≡ None
none_at {O} id = by_case (ltb id counter_count) refl where
  by_case : (b : Bool) → ltb id counter_count ≡ b → counter_at (no_counters {O = O}) id ≡ None
  by_case true low = get_or-replicate counter_count id None None (ltb-true id counter_count low)
  by_case false high =
      get_or_past (no_counters {O = O}).slots id None (ltb-false id counter_count high)

pub none_in_use : {O : Type 0} (id : ℕ) (counter : Counter O) →
    counter_at no_counters id ≡ Some counter → ⊥
none_in_use id counter is =
    let clash : None ≡ Some counter = sym (none_at id) ∙ is in cc

-- the owner of each counter has this
abbrev pub OwnersHave : {O : Type 0} → (O → Type 0) → Counters O → Type 0
OwnersHave {O} P c =
    (id : ℕ) (counter : Counter O) → counter_at c id ≡ Some counter → P counter.owner

-- so it is with a counter more, whose owner has it
with_owner : {O : Type 0} (P : O → Type 0) (c : Counters O) (id : ℕ) (counter : Counter O) →
    id < length c.slots → OwnersHave P c → P counter.owner →
    OwnersHave P (with_counter c id counter)
with_owner {O} P c id counter low each new k other is = by_id (eqb k id) refl where
  by_id : (b : Bool) → eqb k id ≡ b → P other.owner
  by_id true same =
      let here = subst (λ j. counter_at (with_counter c id counter) j ≡ Some other)
      (eqb-true k id same) is in
      let both : Some counter ≡ Some other = sym (at_same c id counter low) ∙ here in
      let one : counter ≡ other = cc in
      subst (λ (x : Counter O). P x.owner) one new
  by_id false apart =
      each k other (sym (at_other c id counter k (eqb-false k id apart)) ∙ is)

-- after a creation, if the new owner has it
pub create_owners : {O : Type 0} (P : O → Type 0) (owner : O) (c : Counters O) →
    OwnersHave P c → P owner → OwnersHave P (create owner c).0
create_owners P owner c each new =
    create_cases (λ end. OwnersHave P end.0) owner c (λ full. each) (λ id low last. each)
    (λ id low less. with_owner P c id (new_counter owner c) low.low each new)

-- after an increment
pub increment_owners : {O : Type 0} (P : O → Type 0) (same : O → O → Bool) (id : ℕ) (who : O)
    (c : Counters O) → OwnersHave P c → OwnersHave P (increment same id who c).0
increment_owners P same id who c each =
    increment_cases (λ end. OwnersHave P end.0) same id who c (λ unused. each)
    (λ counter is other. each) (λ counter is own last. each)
    (λ counter is own less. with_owner P c id (next counter) (in_use_within c id counter is) each
    (each id counter is))

-- ---- a counter that a call leaves

-- a creation leaves each counter in use as it is
pub create_leaves : {O : Type 0} (owner : O) (c : Counters O) (id : ℕ) (counter : Counter O) →
    counter_at c id ≡ Some counter → counter_at (create owner c).0 id ≡ Some counter
create_leaves {O} owner c id counter is =
    create_cases (λ end. counter_at end.0 id ≡ Some counter) owner c (λ full. is)
    (λ at low last. is)
    (λ at low less. at_other c at (new_counter owner c) id (λ same. other at low.unused same) ∙ is)
  where
    other : (at : ℕ) → counter_at c at ≡ None → id ≡ at → ⊥
    other at unused same =
        let here = subst (λ k. counter_at c k ≡ Some counter) same is in
        let clash : None ≡ Some counter = sym unused ∙ here in
        cc

-- an increment leaves each counter as it is whose owner is not the one who asks
pub increment_leaves : {O : Type 0} (same : O → O → Bool) (at : ℕ) (who : O) (c : Counters O)
    (id : ℕ) (counter : Counter O) → counter_at c id ≡ Some counter →
    same counter.owner who ≡ false →
    counter_at (increment same at who c).0 id ≡ Some counter
increment_leaves {O} same at who c id counter is foreign =
    increment_cases (λ end. counter_at end.0 id ≡ Some counter) same at who c (λ unused. is)
    (λ one there other. is) (λ one there own last. is)
    (λ one there own less. at_other c at (next one) id (λ here. apart one there own here) ∙ is)
  where
    apart : (one : Counter O) → counter_at c at ≡ Some one → same one.owner who ≡ true →
        id ≡ at → ⊥
    apart one there own here =
        let both : Some one ≡ Some counter =
        sym there ∙ subst (λ k. counter_at c k ≡ Some counter) here is in
        let equal : one ≡ counter = cc in
        let own' = subst (λ (x : Counter O). same x.owner who ≡ true) equal own in
        let clash : true ≡ false = sym own' ∙ foreign in
        cc
