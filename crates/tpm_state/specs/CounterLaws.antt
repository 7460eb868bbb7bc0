-- Laws of counters, over any kind of owner.
use Rattle.std.specs.Prelude.{◌≡◌, ◌≢◌, ◌↔◌, ℕ, ◌+◌, ◌<◌, ◌≤◌, max, Bool, true, false, ◌==◌, cond}
use Rattle.std.specs.Prelude.{List, [], ◌∷◌, length, map, get_or}
use Rattle.std.specs.Prelude.{if◌then◌else◌, nat_lt, Option, Some, None, is_none, is_some, option_map}
use Rattle.std.specs.Prelude.{Result, Ok, Err}
use Rattle.std.specs.List.{position_or_len}
use Rattle.std.proofs.Common.{refl, sym, ◌∙◌, ap, subst, arith}
use Rattle.std.proofs.lemmas.Bool.{eqb-true, eqb-false, ltb-true, ltb-false}
use Rattle.std.proofs.lemmas.List.{get_or-set_same, get_or-set_other, get_or_past, length-set}
use Rattle.std.proofs.lemmas.List.{length-map, map-set}
use Rattle.std.proofs.lemmas.List.Sums.{passes_at_first, fails_before_first}
use Rattle.std.proofs.Math.Nat.{le-max_left, le-max_right}
use Rattle.std.proofs.Math.ListN.{get_or-map as get_or-map_default}
use Rattle.tpm_state.specs.Refusals.Create as creates
use Rattle.tpm_state.specs.Refusals.Increment as increments
use Rattle.tpm_state.specs.Counters.{Counter, Counters, last_value}
use Rattle.tpm_state.specs.Counters.{counter_at, lowest_unused, with_counter, new_counter, create_at}
use Rattle.tpm_state.specs.Counters.{create, read, value_or_refused, next, increment_at, increment}
use Rattle.tpm_state.specs.Counters.{InRange, Stays, Grew, IsLowest, AllInUse, Created, Incremented}
use Rattle.tpm_state.specs.Counters.{counter_map, counters_map, reply_map}

-- ---- ids

-- what is none
none_of : {X : Type 0} (o : Option X) → is_none o ≡ true → o ≡ None
none_of None is = refl
none_of (Some x) is = absurd (let clash : false ≡ true = is in cc)

-- what is not none
some_of : {X : Type 0} (o : Option X) → is_none o ≡ false → is_some o ≡ true
some_of None is = absurd (let clash : true ≡ false = is in cc)
some_of (Some x) is = refl

-- the id that a search for the lowest unused one finds
pub lowest : {O : Type 0} (c : Counters O) (id : ℕ) → lowest_unused c ≡ Some id → IsLowest c id
lowest {O} c id is = by_case (nat_lt (position_or_len is_none c.slots) (length c.slots)) refl is where
  by_case : (b : Bool) → nat_lt (position_or_len is_none c.slots) (length c.slots) ≡ b →
      cond b (Some (position_or_len is_none c.slots)) None ≡ Some id → IsLowest c id
  by_case false high found = absurd (let clash : None ≡ Some id = found in cc)
  by_case true there found =
      let same : Some (position_or_len is_none c.slots) ≡ Some id = found in
      let at : position_or_len is_none c.slots ≡ id = cc in
      let low = ltb-true (position_or_len is_none c.slots) (length c.slots) there in
      subst (IsLowest c) at (record {
        low = low;
        unused = none_of (get_or c.slots (position_or_len is_none c.slots) None)
            (passes_at_first is_none c.slots None low);
        before = λ k below. some_of (get_or c.slots k None)
            (fails_before_first is_none c.slots k None below);
      })

-- an id in use is one of the slots
pub in_use_within : {O : Type 0} (c : Counters O) (id : ℕ) (counter : Counter O) →
    counter_at c id ≡ Some counter → id < length c.slots
in_use_within {O} c id counter is = by_case (nat_lt id (length c.slots)) refl where
  by_case : (b : Bool) → nat_lt id (length c.slots) ≡ b → id < length c.slots
  by_case true there = ltb-true id (length c.slots) there
  by_case false high =
      let past = get_or_past c.slots id None (ltb-false id (length c.slots) high) in
      absurd (let clash : None ≡ Some counter = sym past ∙ is in cc)

-- ---- one slot set

-- the counter that was put at an id is there
pub at_same : {O : Type 0} (c : Counters O) (id : ℕ) (counter : Counter O) →
    id < length c.slots → counter_at (with_counter c id counter) id ≡ Some counter
at_same c id counter low = get_or-set_same c.slots id (Some counter) None low

-- at each other id stands what stood there
pub at_other : {O : Type 0} (c : Counters O) (id : ℕ) (counter : Counter O) (other : ℕ) →
    other ≢ id → counter_at (with_counter c id counter) other ≡ counter_at c other
at_other c id counter other apart = get_or-set_other c.slots id other (Some counter) None apart

-- counters stay in their ranges when one is put at an id
with_in_range : {O : Type 0} (c : Counters O) (id : ℕ) (counter : Counter O) → InRange c →
    id < length c.slots → counter.value ≤ last_value → InRange (with_counter c id counter)
with_in_range {O} c id counter range low most =
    record {
      count = length-set c.slots id (Some counter) ∙ range.count;
      values = λ k other is. by_id k other is (k == id) refl;
      largest = (let before = range.largest in omega arith);
    }
  where
    by_id : (k : ℕ) (other : Counter O) → counter_at (with_counter c id counter) k ≡ Some other →
        (b : Bool) → (k == id) ≡ b → other.value ≤ max c.largest counter.value
    by_id k other is true same =
        let at = eqb-true k id same in
        let here = subst (λ j. counter_at (with_counter c id counter) j ≡ Some other) at is in
        let both : Some counter ≡ Some other = sym (at_same c id counter low) ∙ here in
        let one : counter ≡ other = cc in
        subst (λ (x : Counter O). x.value ≤ max c.largest counter.value) one
        (le-max_right c.largest counter.value)
    by_id k other is false apart =
        let old = sym (at_other c id counter k (eqb-false k id apart)) ∙ is in
        let below = range.values k other old in
        omega arith

-- counters only grow when one is put at an id, of the same owner and with no lower value, if one is
-- in use there
with_grew : {O : Type 0} (c : Counters O) (id : ℕ) (counter : Counter O) → id < length c.slots →
    ((old : Counter O) → counter_at c id ≡ Some old → Stays old id (with_counter c id counter)) →
    Grew c (with_counter c id counter)
with_grew {O} c id counter low stays =
    record {
      stay = λ k old is. by_id k old is (k == id) refl;
      largest = le-max_left c.largest counter.value;
    }
  where
    by_id : (k : ℕ) (old : Counter O) → counter_at c k ≡ Some old → (b : Bool) →
        (k == id) ≡ b → Stays old k (with_counter c id counter)
    by_id k old is true same =
        let at = eqb-true k id same in
        subst (λ j. Stays old j (with_counter c id counter)) (sym at)
        (stays old (subst (λ j. counter_at c j ≡ Some old) at is))
    by_id k old is false apart =
        record {
          now = old;
          in_use = at_other c id counter k (eqb-false k id apart) ∙ is;
          owner = refl;
          value = omega arith;
        }

-- ---- what the calls come to

-- a creation comes to one of three ends
pub create_cases : {O : Type 0} (P : Counters O × Result ℕ creates.Refusal → Type 0)
    (owner : O) (c : Counters O) →
    (lowest_unused c ≡ None → P (c, Err creates.Full)) →
    ((id : ℕ) → IsLowest c id → c.largest ≡ last_value → P (c, Err creates.End)) →
    ((id : ℕ) → IsLowest c id → c.largest ≢ last_value →
    P (with_counter c id (new_counter owner c), Ok id)) →
    P (create owner c)
create_cases P owner c full ended made = by_id (lowest_unused c) refl where
  by_end : (id : ℕ) → IsLowest c id → (b : Bool) → (c.largest == last_value) ≡ b →
      P (if b
      then (c, Err creates.End)
      else (with_counter c id (new_counter owner c), Ok id))
  by_end id low true is = ended id low (eqb-true c.largest last_value is)
  by_end id low false is = made id low (eqb-false c.largest last_value is)

  by_id : (o : Option ℕ) → lowest_unused c ≡ o → P (create_at owner c o)
  by_id None is = full is
  by_id (Some id) is = by_end id (lowest c id is) (c.largest == last_value) refl

-- an increment comes to one of four ends
pub increment_cases : {O : Type 0} (P : Counters O × Result ℕ increments.Refusal → Type 0)
    (same : O → O → Bool) (id : ℕ) (who : O) (c : Counters O) →
    (counter_at c id ≡ None → P (c, Err increments.NoCounter)) →
    ((counter : Counter O) → counter_at c id ≡ Some counter →
    same counter.owner who ≡ false → P (c, Err increments.NotOwner)) →
    ((counter : Counter O) → counter_at c id ≡ Some counter →
    same counter.owner who ≡ true → counter.value ≡ last_value → P (c, Err increments.End)) →
    ((counter : Counter O) → counter_at c id ≡ Some counter →
    same counter.owner who ≡ true → counter.value ≢ last_value →
    P (with_counter c id (next counter), Ok (counter.value + 1))) →
    P (increment same id who c)
increment_cases {O} P same id who c unused foreign ended made = by_slot (counter_at c id) refl where
  by_end : (counter : Counter O) → counter_at c id ≡ Some counter →
      same counter.owner who ≡ true → (b : Bool) → (counter.value == last_value) ≡ b →
      P (if b
      then (c, Err increments.End)
      else (with_counter c id (next counter), Ok (counter.value + 1)))
  by_end counter is own true last = ended counter is own (eqb-true counter.value last_value last)
  by_end counter is own false less = made counter is own (eqb-false counter.value last_value less)

  by_owner : (counter : Counter O) → counter_at c id ≡ Some counter → (b : Bool) →
      same counter.owner who ≡ b →
      P (if b
      then (if counter.value == last_value
      then (c, Err increments.End)
      else (with_counter c id (next counter), Ok (counter.value + 1)))
      else (c, Err increments.NotOwner))
  by_owner counter is true own = by_end counter is own (counter.value == last_value) refl
  by_owner counter is false other = foreign counter is other

  by_slot : (o : Option (Counter O)) → counter_at c id ≡ o → P (increment_at same id who c o)
  by_slot None is = unused is
  by_slot (Some counter) is = by_owner counter is (same counter.owner who) refl

-- ---- ranges and growth

-- a creation keeps the ranges
pub create_in_range : {O : Type 0} (owner : O) (c : Counters O) → InRange c →
    InRange (create owner c).0
create_in_range owner c range =
    create_cases (λ end. InRange end.0) owner c (λ full. range) (λ id low last. range)
    (λ id low less. with_in_range c id (new_counter owner c) range low.low
    (let most = range.largest in omega arith))

-- an increment keeps the ranges
pub increment_in_range : {O : Type 0} (same : O → O → Bool) (id : ℕ) (who : O) (c : Counters O) →
    InRange c → InRange (increment same id who c).0
increment_in_range same id who c range =
    increment_cases (λ end. InRange end.0) same id who c (λ unused. range)
    (λ counter is other. range) (λ counter is own last. range)
    (λ counter is own less. with_in_range c id (next counter) range
    (in_use_within c id counter is)
    (let below = range.values id counter is in let most = range.largest in omega arith))

-- counters that stay as they are grew
pub grew_same : {O : Type 0} (c : Counters O) → Grew c c
grew_same c =
    record {
      stay = λ id counter is. record {
        now = counter;
        in_use = is;
        owner = refl;
        value = omega arith;
      };
      largest = omega arith;
    }

-- counters that grew, and then grew
pub grew_twice : {O : Type 0} (a b c : Counters O) → Grew a b → Grew b c → Grew a c
grew_twice {O} a b c first second =
    record {
      stay = λ id counter is. both id counter (first.stay id counter is);
      largest = (let one = first.largest in let two = second.largest in omega arith);
    }
  where
    both : (id : ℕ) (counter : Counter O) → Stays counter id b → Stays counter id c
    both id counter stays =
        let more = second.stay id stays.now stays.in_use in
        record {
          now = more.now;
          in_use = more.in_use;
          owner = more.owner ∙ stays.owner;
          value = (let one = stays.value in let two = more.value in omega arith);
        }

-- a creation only adds a counter
pub create_grew : {O : Type 0} (owner : O) (c : Counters O) → Grew c (create owner c).0
create_grew {O} owner c =
    create_cases (λ end. Grew c end.0) owner c (λ full. grew_same c) (λ id low last. grew_same c)
    (λ id low less. with_grew c id (new_counter owner c) low.low
    (λ old is. absurd (let clash : None ≡ Some old = sym low.unused ∙ is in cc)))

-- an increment leaves each counter in use, with its owner and no lower value
pub increment_grew : {O : Type 0} (same : O → O → Bool) (id : ℕ) (who : O) (c : Counters O) →
    Grew c (increment same id who c).0
increment_grew {O} same id who c =
    increment_cases (λ end. Grew c end.0) same id who c (λ unused. grew_same c)
    (λ counter is other. grew_same c) (λ counter is own last. grew_same c)
    (λ counter is own less. with_grew c id (next counter) (in_use_within c id counter is)
    (λ old was. one_more counter is old was))
  where
    one_more : (counter : Counter O) → counter_at c id ≡ Some counter → (old : Counter O) →
        counter_at c id ≡ Some old → Stays old id (with_counter c id (next counter))
    one_more counter is old was =
        let both : Some counter ≡ Some old = sym is ∙ was in
        let one : counter ≡ old = cc in
        subst (λ (x : Counter O). Stays x id (with_counter c id (next counter))) one (record {
          now = next counter;
          in_use = at_same c id (next counter) (in_use_within c id counter is);
          owner = refl;
          value = omega arith;
        })

-- a value that a counter has left is not met again
pub left_for_good : {O : Type 0} (a b c : Counters O) (id : ℕ) (first second third : Counter O) →
    Grew a b → Grew b c →
    counter_at a id ≡ Some first → counter_at b id ≡ Some second → counter_at c id ≡ Some third →
    second.value ≢ first.value → third.value ≢ first.value
left_for_good {O} a b c id first second third grew more at_a at_b at_c left same =
    absurd (let one = value_of a b first second grew at_a at_b in
    let two = value_of b c second third more at_b at_c in
    let other : second.value ≢ first.value = left in
    omega arith)
  where
    value_of : (before after : Counters O) (old new : Counter O) → Grew before after →
        counter_at before id ≡ Some old → counter_at after id ≡ Some new → old.value ≤ new.value
    value_of before after old new grew is will =
        let stays = grew.stay id old is in
        let both : Some stays.now ≡ Some new = sym stays.in_use ∙ will in
        let one : stays.now ≡ new = cc in
        subst (λ (x : Counter O). old.value ≤ x.value) one stays.value

-- ---- what a creation and an increment do

-- a creation that gives an id did what it should
pub create_done : {O : Type 0} (owner : O) (c : Counters O) (id : ℕ) →
    (create owner c).1 ≡ Ok id → Created owner c id (create owner c).0
create_done {O} owner c id =
    create_cases (λ end. end.1 ≡ Ok id → Created owner c id end.0) owner c
    (λ full is. absurd (let clash : Err creates.Full ≡ Ok id = is in cc))
    (λ lowest low last is. absurd (let clash : Err creates.End ≡ Ok id = is in cc))
    (λ at low less is. made at low (let one : at ≡ id = cc in one))
  where
    made : (at : ℕ) → IsLowest c at → at ≡ id →
        Created owner c id (with_counter c at (new_counter owner c))
    made at low one =
        subst (λ (k : ℕ). Created owner c k (with_counter c at (new_counter owner c))) one (record {
          lowest = low;
          new = at_same c at (new_counter owner c) low.low;
          others = λ k apart. at_other c at (new_counter owner c) k apart;
          largest = omega arith;
        })

-- a creation that is refused leaves all as it was
pub create_refused : {O : Type 0} (owner : O) (c : Counters O) (refusal : creates.Refusal) →
    (create owner c).1 ≡ Err refusal → (create owner c).0 ≡ c
create_refused owner c refusal =
    create_cases (λ end. end.1 ≡ Err refusal → end.0 ≡ c) owner c (λ full is. refl)
    (λ lowest low last is. refl)
    (λ at low less is. absurd (let clash : Ok at ≡ Err refusal = is in cc))

-- an increment that gives a value did what it should
pub increment_done : {O : Type 0} (same : O → O → Bool) (id : ℕ) (who : O) (c : Counters O)
    (value : ℕ) →
    (increment same id who c).1 ≡ Ok value →
    Incremented same id who c value (increment same id who c).0
increment_done {O} same id who c value =
    increment_cases (λ end. end.1 ≡ Ok value → Incremented same id who c value end.0) same id who c
    (λ unused is. absurd (let clash : Err increments.NoCounter ≡ Ok value = is in cc))
    (λ counter at other is. absurd (let clash : Err increments.NotOwner ≡ Ok value = is in cc))
    (λ counter at own last is. absurd (let clash : Err increments.End ≡ Ok value = is in cc))
    (λ counter at own less is.
    made counter at own (let one : counter.value + 1 ≡ value = cc in one))
  where
    made : (counter : Counter O) → counter_at c id ≡ Some counter →
        same counter.owner who ≡ true → counter.value + 1 ≡ value →
        Incremented same id who c value (with_counter c id (next counter))
    made counter at own one =
        record {
          counter = counter;
          was = at;
          own = own;
          one_above = sym one;
          is = at_same c id (next counter) (in_use_within c id counter at);
          others = λ k apart. at_other c id (next counter) k apart;
          largest = ap (max c.largest) one;
        }

-- an increment that is refused leaves all as it was
pub increment_refused : {O : Type 0} (same : O → O → Bool) (id : ℕ) (who : O) (c : Counters O)
    (refusal : increments.Refusal) →
    (increment same id who c).1 ≡ Err refusal → (increment same id who c).0 ≡ c
increment_refused same id who c refusal =
    increment_cases (λ end. end.1 ≡ Err refusal → end.0 ≡ c) same id who c (λ unused is. refl)
    (λ counter at other is. refl) (λ counter at own last is. refl)
    (λ counter at own less is.
    absurd (let clash : Ok (counter.value + 1) ≡ Err refusal = is in cc))

-- where no id is unused, all are in use
all_in_use : {O : Type 0} (c : Counters O) → lowest_unused c ≡ None → AllInUse c
all_in_use {O} c none id low =
    by_case (nat_lt (position_or_len is_none c.slots) (length c.slots)) refl none
  where
    by_case : (b : Bool) → nat_lt (position_or_len is_none c.slots) (length c.slots) ≡ b →
        cond b (Some (position_or_len is_none c.slots)) None ≡ None →
        is_some (counter_at c id) ≡ true
    by_case true there is =
        absurd (let clash : Some (position_or_len is_none c.slots) ≡ None = is in cc)
    by_case false past is =
        let high = ltb-false (position_or_len is_none c.slots) (length c.slots) past in
        some_of (get_or c.slots id None)
        (fails_before_first is_none c.slots id None (omega arith))

-- a creation is refused as Full exactly where all ids are in use
pub create_full : {O : Type 0} (owner : O) (c : Counters O) →
    ((create owner c).1 ≡ Err creates.Full) ↔ AllInUse c
create_full {O} owner c =
    create_cases (λ end. (end.1 ≡ Err creates.Full) ↔ AllInUse c) owner c
    (λ none. (λ is. all_in_use c none, λ all. refl))
    (λ id low last. (
      λ is. absurd (let clash : Err creates.End ≡ Err creates.Full = is in cc),
      λ all. absurd (not_all id low all),
    ))
    (λ id low less. (
      λ is. absurd (let clash : Ok id ≡ Err creates.Full = is in cc),
      λ all. absurd (not_all id low all),
    ))
  where
    not_all : (id : ℕ) → IsLowest c id → AllInUse c → ⊥
    not_all id low all =
        let clash : false ≡ true =
        sym (ap (is_some {T = Counter O}) low.unused) ∙ all id low.low in
        cc

-- ---- what is given is new

-- an id is given once
pub new_id : {O : Type 0} (owner : O) (a b : Counters O) (id : ℕ) (counter : Counter O) →
    Grew a b → counter_at a id ≡ Some counter → (create owner b).1 ≢ Ok id
new_id {O} owner a b id counter grew is given =
    let stays = grew.stay id counter is in
    let done = create_done owner b id given in
    absurd (let clash : Some stays.now ≡ None = sym stays.in_use ∙ done.lowest.unused in cc)

-- a new counter begins above each value that any counter had
pub new_first_value : {O : Type 0} (owner : O) (a b : Counters O) (id new : ℕ)
    (counter made : Counter O) →
    InRange a → Grew a b → counter_at a id ≡ Some counter → (create owner b).1 ≡ Ok new →
    counter_at (create owner b).0 new ≡ Some made → counter.value < made.value
new_first_value {O} owner a b id new counter made range grew is given there =
    let done = create_done owner b new given in
    let both : Some (new_counter owner b) ≡ Some made = sym done.new ∙ there in
    let one : new_counter owner b ≡ made = cc in
    let below = range.values id counter is in
    let more = grew.largest in
    subst (λ (x : Counter O). counter.value < x.value) one (omega arith)

-- an increment gives a value above each that the counter had
pub new_next_value : {O : Type 0} (same : O → O → Bool) (id : ℕ) (who : O) (a b : Counters O)
    (counter : Counter O) (value : ℕ) →
    Grew a b → counter_at a id ≡ Some counter → (increment same id who b).1 ≡ Ok value →
    counter.value < value
new_next_value {O} same id who a b counter value grew is given =
    let stays = grew.stay id counter is in
    let done = increment_done same id who b value given in
    let both : Some stays.now ≡ Some done.counter = sym stays.in_use ∙ done.was in
    let one : stays.now ≡ done.counter = cc in
    let more = subst (λ (x : Counter O). counter.value ≤ x.value) one stays.value in
    let is_one = done.one_above in
    omega arith

-- ---- other owners

-- what stands at an id, with its owner made another
pub mapped_at : {O P : Type 0} (f : O → P) (c : Counters O) (id : ℕ) →
    counter_at (counters_map f c) id ≡ option_map (counter_map f) (counter_at c id)
mapped_at f c id = get_or-map_default (option_map (counter_map f)) c.slots id None

-- a counter put at an id, with its owner made another
mapped_with : {O P : Type 0} (f : O → P) (c : Counters O) (id : ℕ) (counter : Counter O) →
    with_counter (counters_map f c) id (counter_map f counter)
    ≡ counters_map f (with_counter c id counter)
mapped_with {O} {P} f c id counter =
    sym (ap (λ (slots : List (Option (Counter P))). put slots)
    (map-set (option_map (counter_map f)) c.slots id (Some counter)))
  where
    put : List (Option (Counter P)) → Counters P
    put slots = record { slots = slots; largest = max c.largest counter.value }

-- as many slots in use come first
mapped_first : {O P : Type 0} (f : O → P) (slots : List (Option (Counter O))) →
    position_or_len is_none (map (option_map (counter_map f)) slots) ≡ position_or_len is_none slots
mapped_first f [] = refl
mapped_first f (None ∷ rest) = refl
mapped_first f (Some counter ∷ rest) = ap (λ n. 1 + n) (mapped_first f rest)

-- the lowest unused id is the same
pub mapped_lowest : {O P : Type 0} (f : O → P) (c : Counters O) →
    lowest_unused (counters_map f c) ≡ lowest_unused c
mapped_lowest {O} {P} f c =
    ap (λ (n : ℕ). found n (length (map (option_map (counter_map f)) c.slots)))
    (mapped_first f c.slots)
    ∙ ap (found (position_or_len is_none c.slots)) (length-map c.slots (option_map (counter_map f)))
  where
    found : ℕ → ℕ → Option ℕ
    found n count = cond (nat_lt n count) (Some n) None

-- a creation comes to the same by other owners
pub mapped_create : {O P : Type 0} (f : O → P) (owner : O) (c : Counters O) →
    create (f owner) (counters_map f c) ≡ reply_map f (create owner c)
mapped_create {O} {P} f owner c =
    ap (create_at (f owner) (counters_map f c)) (mapped_lowest f c) ∙ by_id (lowest_unused c)
  where
    by_end : (id : ℕ) (b : Bool) →
        (if b
        then (counters_map f c, Err creates.End)
        else (with_counter (counters_map f c) id (new_counter (f owner) (counters_map f c)), Ok id))
        ≡ reply_map f (if b
        then (c, Err creates.End)
        else (with_counter c id (new_counter owner c), Ok id))
    by_end id true = refl
    by_end id false =
        ap (λ (d : Counters P). (d, Ok id)) (mapped_with f c id (new_counter owner c))

    by_id : (o : Option ℕ) →
        create_at (f owner) (counters_map f c) o ≡ reply_map f (create_at owner c o)
    by_id None = refl
    by_id (Some id) = by_end id (c.largest == last_value)

-- a counter is read the same by other owners
pub mapped_read : {O P : Type 0} (f : O → P) (id : ℕ) (c : Counters O) →
    read id (counters_map f c) ≡ read id c
mapped_read {O} f id c = ap value_or_refused (mapped_at f c id) ∙ by_slot (counter_at c id) where
  by_slot : (o : Option (Counter O)) →
      value_or_refused (option_map (counter_map f) o) ≡ value_or_refused o
  by_slot None = refl
  by_slot (Some counter) = refl

-- an increment comes to the same by other owners, where the owner is the same there as here
pub mapped_increment : {O P : Type 0} (f : O → P) (same : O → O → Bool) (same' : P → P → Bool)
    (id : ℕ) (who : O) (c : Counters O) →
    ((counter : Counter O) → counter_at c id ≡ Some counter →
    same' (f counter.owner) (f who) ≡ same counter.owner who) →
    increment same' id (f who) (counters_map f c) ≡ reply_map f (increment same id who c)
mapped_increment {O} {P} f same same' id who c alike =
    ap (increment_at same' id (f who) (counters_map f c)) (mapped_at f c id)
    ∙ by_slot (counter_at c id) refl
  where
    by_end : (counter : Counter O) (b : Bool) →
        (if b
        then (counters_map f c, Err increments.End)
        else (
          with_counter (counters_map f c) id (next (counter_map f counter)),
          Ok (counter.value + 1),
        ))
        ≡ reply_map f (if b
        then (c, Err increments.End)
        else (with_counter c id (next counter), Ok (counter.value + 1)))
    by_end counter true = refl
    by_end counter false =
        ap (λ (d : Counters P). (d, Ok (counter.value + 1))) (mapped_with f c id (next counter))

    by_owner : (counter : Counter O) (here there : Bool) → there ≡ here →
        (if there
        then (if counter.value == last_value
        then (counters_map f c, Err increments.End)
        else (
          with_counter (counters_map f c) id (next (counter_map f counter)),
          Ok (counter.value + 1),
        ))
        else (counters_map f c, Err increments.NotOwner))
        ≡ reply_map f (if here
        then (if counter.value == last_value
        then (c, Err increments.End)
        else (with_counter c id (next counter), Ok (counter.value + 1)))
        else (c, Err increments.NotOwner))
    by_owner counter true true one = by_end counter (counter.value == last_value)
    by_owner counter false false one = refl
    by_owner counter true false one = absurd (let clash : false ≡ true = one in cc)
    by_owner counter false true one = absurd (let clash : true ≡ false = one in cc)

    by_slot : (o : Option (Counter O)) → counter_at c id ≡ o →
        increment_at same' id (f who) (counters_map f c) (option_map (counter_map f) o)
        ≡ reply_map f (increment_at same id who c o)
    by_slot None is = refl
    by_slot (Some counter) is =
        by_owner counter (same counter.owner who) (same' (f counter.owner) (f who))
        (alike counter is)

-- counters in their ranges are so with other owners
pub mapped_range : {O P : Type 0} (f : O → P) (c : Counters O) → InRange c →
    InRange (counters_map f c)
mapped_range {O} {P} f c range =
    record {
      count = length-map c.slots (option_map (counter_map f)) ∙ range.count;
      values = λ id counter is. by_slot id counter (counter_at c id) refl
          (sym (mapped_at f c id) ∙ is);
      largest = range.largest;
    }
  where
    by_slot : (id : ℕ) (counter : Counter P) (o : Option (Counter O)) → counter_at c id ≡ o →
        option_map (counter_map f) o ≡ Some counter → counter.value ≤ c.largest
    by_slot id counter None was is = absurd (let clash : None ≡ Some counter = is in cc)
    by_slot id counter (Some old) was is =
        let both : Some (counter_map f old) ≡ Some counter = is in
        let one : counter_map f old ≡ counter = cc in
        subst (λ (x : Counter P). x.value ≤ c.largest) one (range.values id old was)
