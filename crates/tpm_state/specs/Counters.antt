-- Monotonic counters: numbers that are only ever incremented, each by its owner alone (TPM 1.2,
-- part 3, TPM_CreateCounter, TPM_IncrementCounter, TPM_ReadCounter). O is what an owner is kept as:
-- all the texts of a register, or the 20 bytes that it shows.
use Rattle.std.specs.Prelude.{◌≡◌, ◌≢◌, ℕ, ◌+◌, ◌-◌, ◌^◌, ◌<◌, ◌≤◌, max, Bool, true, ◌==◌, List}
use Rattle.std.specs.Prelude.{length, replicate, is_some}
use Rattle.std.specs.Prelude.{map, position, slice_index_or, slice_set, if◌then◌else◌}
use Rattle.std.specs.Prelude.{Option, Some, None, is_none, option_map, Result, Ok, Err}
use Rattle.tpm_state.specs.Refusals.Create as creates
use Rattle.tpm_state.specs.Refusals.ReadCounter as reads
use Rattle.tpm_state.specs.Refusals.Increment as increments

-- how many counters there can be
abbrev pub counter_count : ℕ
counter_count = 16

-- the last value of a counter
abbrev pub last_value : ℕ
last_value = 2 ^ 32 - 1

-- a counter: who may increment it, and its value
pub record Counter (O : Type 0) : Type 0 where
  pub owner : O
  pub value : ℕ

-- counters: at each id the one in use, if one is, and the largest value that any has had so far
pub record Counters (O : Type 0) : Type 0 where
  pub slots : List (Option (Counter O))
  pub largest : ℕ

-- counters of which none was ever in use
abbrev pub no_counters : {O : Type 0} → Counters O
no_counters = record { slots = replicate counter_count None; largest = 0 }

-- the counter in use at an id, if one is
abbrev pub counter_at : {O : Type 0} → Counters O → ℕ → Option (Counter O)
counter_at c id = slice_index_or c.slots id None

-- the lowest unused id, if one is unused
abbrev pub lowest_unused : {O : Type 0} → Counters O → Option ℕ
lowest_unused c = position is_none c.slots

-- the counters with this one at an id: the largest value so far is its own, if that is larger
abbrev pub with_counter : {O : Type 0} → Counters O → ℕ → Counter O → Counters O
with_counter c id counter =
    record { slots = slice_set c.slots id (Some counter); largest = max c.largest counter.value }

-- ---- creation

-- a new counter begins one above the largest value that any has had so far
abbrev pub new_counter : {O : Type 0} → O → Counters O → Counter O
new_counter owner c = record { owner = owner; value = c.largest + 1 }

-- a counter is created at this id, if there is one: Full, and then End
abbrev pub create_at : {O : Type 0} → O → Counters O → Option ℕ →
    Counters O × Result ℕ creates.Refusal
create_at owner c None = (c, Err creates.Full)
create_at owner c (Some id) =
    if c.largest == last_value
    then (c, Err creates.End)
    else (with_counter c id (new_counter owner c), Ok id)

-- a counter is created for an owner, at the lowest unused id
abbrev pub create : {O : Type 0} → O → Counters O → Counters O × Result ℕ creates.Refusal
create owner c = create_at owner c (lowest_unused c)

-- ---- reading

-- the value of a counter, if there is one: anyone may read it
abbrev pub value_or_refused : {O : Type 0} → Option (Counter O) → Result ℕ reads.Refusal
value_or_refused None = Err reads.NoCounter
value_or_refused (Some counter) = Ok counter.value

-- the value of the counter at an id
abbrev pub read : {O : Type 0} → ℕ → Counters O → Result ℕ reads.Refusal
read id c = value_or_refused (counter_at c id)

-- ---- incrementing

-- the counter one further
abbrev pub next : {O : Type 0} → Counter O → Counter O
next counter = record { owner = counter.owner; value = counter.value + 1 }

-- this counter at an id, if there is one, is incremented by its owner: NoCounter, NotOwner, End
abbrev pub increment_at : {O : Type 0} → (O → O → Bool) → ℕ → O → Counters O →
    Option (Counter O) → Counters O × Result ℕ increments.Refusal
increment_at same id who c None = (c, Err increments.NoCounter)
increment_at same id who c (Some counter) =
    if same counter.owner who
    then (if counter.value == last_value
    then (c, Err increments.End)
    else (with_counter c id (next counter), Ok (next counter).value))
    else (c, Err increments.NotOwner)

-- the counter at an id is incremented, where the one who asks is the same as its owner
abbrev pub increment : {O : Type 0} → (O → O → Bool) → ℕ → O → Counters O →
    Counters O × Result ℕ increments.Refusal
increment same id who c = increment_at same id who c (counter_at c id)

-- ---- what holds of counters over any calls

-- there are all slots, no value is above the largest so far, and that is not past the last
pub record InRange {O : Type 0} (c : Counters O) : Type 0 where
  pub count : length c.slots ≡ counter_count
  pub values : (id : ℕ) (counter : Counter O) →
      counter_at c id ≡ Some counter → counter.value ≤ c.largest
  pub largest : c.largest ≤ last_value

-- what became of a counter at an id: it is in use, with its owner, and its value has not fallen
pub record Stays {O : Type 0} (counter : Counter O) (id : ℕ) (after : Counters O) : Type 0 where
  pub now : Counter O
  pub in_use : counter_at after id ≡ Some now
  pub owner : now.owner ≡ counter.owner
  pub value : counter.value ≤ now.value

-- counters only grew: each that was in use stays, and the largest value so far has not fallen
pub record Grew {O : Type 0} (before after : Counters O) : Type 0 where
  pub stay : (id : ℕ) (counter : Counter O) →
      counter_at before id ≡ Some counter → Stays counter id after
  pub largest : before.largest ≤ after.largest

-- every id is in use
abbrev pub AllInUse : {O : Type 0} → Counters O → Type 0
AllInUse c = (id : ℕ) → id < length c.slots → is_some (counter_at c id) ≡ true

-- an id is the lowest unused one: it is unused, and each below it is in use
pub record IsLowest {O : Type 0} (c : Counters O) (id : ℕ) : Type 0 where
  pub low : id < length c.slots
  pub unused : counter_at c id ≡ None
  pub before : (k : ℕ) → k < id → is_some (counter_at c k) ≡ true

-- what a creation did that gave an id: the lowest unused one now has a counter of this owner, one
-- above the largest value so far; nothing else changed
pub record Created {O : Type 0} (owner : O) (before : Counters O) (id : ℕ) (after : Counters O) :
    Type 0
  where
    pub lowest : IsLowest before id
    pub new : counter_at after id ≡ Some (new_counter owner before)
    pub others : (other : ℕ) → other ≢ id → counter_at after other ≡ counter_at before other
    pub largest : after.largest ≡ before.largest + 1

-- what an increment did that gave a value: the counter is one of who asked, and the value one above
-- its old one; nothing else changed
pub record Incremented {O : Type 0} (same : O → O → Bool) (id : ℕ) (who : O) (before : Counters O)
    (value : ℕ) (after : Counters O) : Type 0
  where
    pub counter : Counter O
    pub was : counter_at before id ≡ Some counter
    pub own : same counter.owner who ≡ true
    pub one_above : value ≡ counter.value + 1
    pub is : counter_at after id ≡ Some (next counter)
    pub others : (other : ℕ) → other ≢ id → counter_at after other ≡ counter_at before other
    pub largest : after.largest ≡ max before.largest value

-- ---- other owners

-- a counter with its owner made another
abbrev pub counter_map : {O P : Type 0} → (O → P) → Counter O → Counter P
counter_map f counter = record { owner = f counter.owner; value = counter.value }

-- counters with each owner made another
abbrev pub counters_map : {O P : Type 0} → (O → P) → Counters O → Counters P
counters_map f c =
    record { slots = map (option_map (counter_map f)) c.slots; largest = c.largest }

-- what a call comes to, with each owner made another
abbrev pub reply_map : {O P X : Type 0} → (O → P) → Counters O × X → Counters P × X
reply_map f end = (counters_map f end.0, end.1)
