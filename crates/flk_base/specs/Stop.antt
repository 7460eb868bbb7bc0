-- Stops: the power is lost after the first n commands of a plan, counting those that cost.
use Rattle.std.specs.Prelude.{◌≡◌, ℕ, zero, suc, ◌+◌, ◌-◌, nat_le, Bool, true, false, Option, Some}
use Rattle.std.specs.Prelude.{None, List, [], ◌∷◌, ◌++◌, drop, length, Result, Ok, Err}
use Rattle.std.specs.Prelude.{if◌then◌else◌}
use Rattle.flk_base.specs.Plan.{Plan, Return, Ask, Machine, run}

-- how many commands that cost may still be given: a number, or any number
abbrev pub Limit : Type 0
Limit = Option ℕ

-- what a command leaves of a limit, by whether it costs; none where it does and nothing was left
abbrev pub spent : Bool → Limit → Option Limit
spent false left = Some left
spent true None = Some None
spent true (Some zero) = None
spent true (Some (suc n)) = Some (Some n)

-- a command and what follows, where enough was left; else the plan is cut before it, with no value
abbrev pub ask_if : {C : Type 0} {Reply : C → Type 0} {X : Type 0} →
    (c : C) → Limit → (Limit → Reply c → Plan C Reply (Limit × Option X)) →
    Option Limit → Plan C Reply (Limit × Option X)
ask_if c left next None = Return (left, None)
ask_if c left next (Some less) = Ask c (next less)

-- the plan that gives at most so many commands: what is left, and the value, or none if it was cut
abbrev pub limited : {C : Type 0} {Reply : C → Type 0} {X : Type 0} →
    (C → Bool) → Plan C Reply X → Limit → Plan C Reply (Limit × Option X)
limited costs (Return x) left = Return (left, Some x)
limited costs (Ask c next) left =
    ask_if c left (λ less reply. limited costs (next reply) less) (spent (costs c) left)

-- a state with a fuse: how many commands are left before the power is lost
pub record Fused (S : Type 0) : Type 0 where
  pub state : S
  pub fuse : Limit

-- the state with this fuse
abbrev pub with_fuse : {S : Type 0} → S → Limit → Fused S
with_fuse s fuse = record { state = s; fuse = fuse }

-- where the run of a limited plan ends: the state with what is left, and the value
abbrev pub end_of : {S X : Type 0} → S × (Limit × Option X) → Fused S × Option X
end_of end = (with_fuse end.0 end.1.0, end.1.1)

-- a plan from a state with a fuse: what stands after it, and the value, or none if power was lost
abbrev pub fused : {C : Type 0} {Reply : C → Type 0} {X S : Type 0} →
    (C → Bool) → Machine C Reply S → Plan C Reply X → Fused S → Fused S × Option X
fused costs m p before = end_of (run m (limited costs p before.fuse) before.state)

-- a second plan from where a first one ended, unless the power was lost
abbrev pub then_fused : {C : Type 0} {Reply : C → Type 0} {X Y S : Type 0} →
    (C → Bool) → Machine C Reply S → (X → Plan C Reply Y) → Fused S × Option X → Fused S × Option Y
then_fused costs m f (before, None) = (before, None)
then_fused costs m f (before, Some x) = fused costs m (f x) before

-- ---- what the code answers

-- a call ends as its plan does: it leaves that state, and answers what is reported of that value
abbrev pub Ends : {B X Y : Type 0} → (Option X → Y) → B × Option X → B → Y → Type 0
Ends reports end after answer = (after ≡ end.0) × (answer ≡ reports end.1)

-- a value is reported as it is, and lost power by this error
abbrev pub or_lost : {X E : Type 0} → E → Option X → Result X E
or_lost lost None = Err lost
or_lost lost (Some x) = Ok x

-- a reply is reported as it is, a refusal by the code's error for it, lost power by this error
abbrev pub reported : {X E F : Type 0} → (E → F) → F → Option (Result X E) → Result X F
reported error lost None = Err lost
reported error lost (Some (Ok x)) = Ok x
reported error lost (Some (Err refusal)) = Err (error refusal)

-- a buffer once these bytes were written over its first ones
abbrev pub over : List ℕ → List ℕ → List ℕ
over bytes buffer = bytes ++ drop (length bytes) buffer

-- bytes are reported by how many they are, and stand in the buffer; else it stays as it was
abbrev pub reported_into : {E F : Type 0} →
    List ℕ → (E → F) → F → Option (Result (List ℕ) E) → Result ℕ F × List ℕ
reported_into buffer error lost None = (Err lost, buffer)
reported_into buffer error lost (Some (Ok bytes)) = (Ok (length bytes), over bytes buffer)
reported_into buffer error lost (Some (Err refusal)) = (Err (error refusal), buffer)

-- ---- the same by the finished list of commands, cut at n

-- the commands that the whole plan gives, in order
abbrev pub commands : {C : Type 0} {Reply : C → Type 0} {X S : Type 0} →
    Machine C Reply S → Plan C Reply X → S → List C
commands m (Return x) s = []
commands m (Ask c next) s = c ∷ commands m (next (m c s).1) (m c s).0

-- the state after these commands
abbrev pub after : {C : Type 0} {Reply : C → Type 0} {S : Type 0} →
    Machine C Reply S → List C → S → S
after m [] s = s
after m (c ∷ given) s = after m given (m c s).0

-- what a command takes of a limit: one if it costs, and else nothing
abbrev pub price : Bool → ℕ
price false = 0
price true = 1

-- how many of the commands cost
abbrev pub cost : {C : Type 0} → (C → Bool) → List C → ℕ
cost costs [] = 0
cost costs (c ∷ given) = price (costs c) + cost costs given

-- a command and what follows it, if it is free or n is not 0
abbrev pub prefix_if : {C : Type 0} → Bool → ℕ → C → (ℕ → List C) → List C
prefix_if false n c rest = c ∷ rest n
prefix_if true zero c rest = []
prefix_if true (suc n) c rest = c ∷ rest n

-- the longest prefix of the commands in which at most n cost
abbrev pub prefix : {C : Type 0} → (C → Bool) → ℕ → List C → List C
prefix costs n [] = []
prefix costs n (c ∷ given) = prefix_if (costs c) n c (λ left. prefix costs left given)

-- where more than n commands cost, power is lost after that prefix; else the rest of n is left
abbrev pub cut : {C : Type 0} {Reply : C → Type 0} {X S : Type 0} →
    (C → Bool) → Machine C Reply S → Plan C Reply X → S → Limit → Fused S × Option X
cut costs m p s None = (with_fuse (run m p s).0 None, Some (run m p s).1)
cut costs m p s (Some n) =
    if nat_le (cost costs (commands m p s)) n
    then (with_fuse (run m p s).0 (Some (n - cost costs (commands m p s))), Some (run m p s).1)
    else (with_fuse (after m (prefix costs n (commands m p s)) s) (Some 0), None)
