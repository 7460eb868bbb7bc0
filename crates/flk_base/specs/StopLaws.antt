-- Laws of stops.
use Rattle.std.specs.Prelude.{◌≡◌, ℕ, zero, suc, ◌+◌, ◌-◌, ◌≤◌, nat_le, Bool, true, false, Option}
use Rattle.std.specs.Prelude.{Some, None, List, [], ◌∷◌, ◌++◌, length, Result, Ok, Err}
use Rattle.std.specs.Prelude.{if◌then◌else◌}
use Rattle.flk_base.specs.Plan.{Plan, Return, Ask, Machine, ◌>>=◌, run, Throughout, GivesOnly}
use Rattle.flk_base.specs.Stop.{Limit, spent, ask_if, limited, Fused, with_fuse, end_of, fused}
use Rattle.flk_base.specs.Stop.{then_fused, Ends, or_lost, commands, after, cost, prefix, prefix_if}
use Rattle.flk_base.specs.Stop.{price, cut}
use Rattle.std.proofs.Common.{refl, sym, ◌∙◌, ap, subst, arith}

-- two plans with a fuse, one after the other: the second has what the first left of the fuse
pub fused-bind : {C : Type 0} {Reply : C → Type 0} {X Y S : Type 0}
    (costs : C → Bool) (m : Machine C Reply S) (p : Plan C Reply X) (f : X → Plan C Reply Y)
    (before : Fused S) →
    fused costs m (p >>= f) before ≡ then_fused costs m f (fused costs m p before)
fused-bind {C} {Reply} {X} {Y} {S} costs m p f before = at p before.fuse before.state where
  by_spent : (c : C) (next : Reply c → Plan C Reply X) (left : Limit) (s : S) →
      ((less : Limit) → end_of (run m (limited costs (next (m c s).1 >>= f) less) (m c s).0)
      ≡ then_fused costs m f (end_of (run m (limited costs (next (m c s).1) less) (m c s).0))) →
      (o : Option Limit) →
      end_of (run m (ask_if c left (λ less reply. limited costs (next reply >>= f) less) o) s)
      ≡ then_fused costs m f
      (end_of (run m (ask_if c left (λ less reply. limited costs (next reply) less) o) s))
  by_spent c next left s again None = refl
  by_spent c next left s again (Some less) = again less

  at : (p : Plan C Reply X) (left : Limit) (s : S) →
      end_of (run m (limited costs (p >>= f) left) s)
      ≡ then_fused costs m f (end_of (run m (limited costs p left) s))
  at (Return x) left s = refl
  at (Ask c next) left s =
      by_spent c next left s (λ less. at (next (m c s).1) less (m c s).0) (spent (costs c) left)

-- a fact throughout a plan holds throughout the limited plan
pub throughout-limited : {C : Type 0} {Reply : C → Type 0} {X S : Type 0}
    (costs : C → Bool) (m : Machine C Reply S) (Fact : C → S → Type 0)
    (p : Plan C Reply X) (left : Limit) (s : S) →
    Throughout m Fact p s → Throughout m Fact (limited costs p left) s
throughout-limited costs m Fact (Return x) left s facts = tt
throughout-limited {C} {Reply} {X} {S} costs m Fact (Ask c next) left s facts =
    by_spent (λ less. throughout-limited costs m Fact (next (m c s).1) less (m c s).0 facts.1)
    (spent (costs c) left) where
      by_spent :
          ((less : Limit) → Throughout m Fact (limited costs (next (m c s).1) less) (m c s).0) →
          (o : Option Limit) →
          Throughout m Fact (ask_if c left (λ less reply. limited costs (next reply) less) o) s
      by_spent rest None = tt
      by_spent rest (Some less) = (facts.0, rest less)

-- the limited plan gives only commands that the plan gives
pub only-limited : {C : Type 0} {Reply : C → Type 0} {X : Type 0}
    (costs : C → Bool) (Such : C → Type 0) (p : Plan C Reply X) (left : Limit) →
    GivesOnly Such p → GivesOnly Such (limited costs p left)
only-limited costs Such (Return x) left only = tt
only-limited {C} {Reply} {X} costs Such (Ask c next) left only =
    by_spent (λ less reply. only-limited costs Such (next reply) less (only.1 reply))
    (spent (costs c) left) where
      by_spent :
          ((less : Limit) (reply : Reply c) → GivesOnly Such (limited costs (next reply) less)) →
          (o : Option Limit) →
          GivesOnly Such (ask_if c left (λ less reply. limited costs (next reply) less) o)
      by_spent rest None = tt
      by_spent rest (Some less) = (only.0, rest less)

-- ---- the prefix in which at most n commands cost

-- the commands begin with it
pub prefix-begins : {C : Type 0} (costs : C → Bool) (n : ℕ) (given : List C) →
    (rest : List C) × (given ≡ prefix costs n given ++ rest)
prefix-begins costs n [] = ([], refl)
prefix-begins {C} costs n (c ∷ given) =
    by_price (λ less. prefix-begins costs less given) (costs c) n where
      by_price : ((less : ℕ) → (rest : List C) × (given ≡ prefix costs less given ++ rest)) →
          (paid : Bool) (n : ℕ) →
          (rest : List C)
          × (c ∷ given ≡ prefix_if paid n c (λ left. prefix costs left given) ++ rest)
      by_price again false n = ((again n).0, ap (λ rest. c ∷ rest) (again n).1)
      by_price again true zero = (c ∷ given, refl)
      by_price again true (suc n) = ((again n).0, ap (λ rest. c ∷ rest) (again n).1)

-- at most n commands of it cost
pub prefix-cost : {C : Type 0} (costs : C → Bool) (n : ℕ) (given : List C) →
    cost costs (prefix costs n given) ≤ n
prefix-cost costs n [] = omega arith
prefix-cost {C} costs n (c ∷ given) =
    by_price (λ less. prefix-cost costs less given) (costs c) refl n where
      by_price : ((less : ℕ) → cost costs (prefix costs less given) ≤ less) →
          (paid : Bool) → costs c ≡ paid → (n : ℕ) →
          cost costs (prefix_if paid n c (λ left. prefix costs left given)) ≤ n
      by_price again false is n = let rest = again n in rw is (omega arith)
      by_price again true is zero = omega arith
      by_price again true is (suc n) = let rest = again n in rw is (omega arith)

-- no list with which the commands begin, and in which at most n cost, is longer
pub prefix-longest : {C : Type 0} (costs : C → Bool) (n : ℕ) (other rest : List C) →
    cost costs other ≤ n → length other ≤ length (prefix costs n (other ++ rest))
prefix-longest costs n [] rest few = omega arith
prefix-longest {C} costs n (c ∷ other) rest few =
    by_price (λ less. prefix-longest costs less other rest) (costs c) n few where
      by_price :
          ((less : ℕ) → cost costs other ≤ less →
          length other ≤ length (prefix costs less (other ++ rest))) →
          (paid : Bool) (n : ℕ) → price paid + cost costs other ≤ n →
          suc (length other)
          ≤ length (prefix_if paid n c (λ left. prefix costs left (other ++ rest)))
      by_price again false n few = let more = again n (omega arith) in omega arith
      by_price again true zero few = omega arith
      by_price again true (suc n) few = let more = again n (omega arith) in omega arith

-- the limited plan gives this prefix of the plan's commands
pub commands-limited : {C : Type 0} {Reply : C → Type 0} {X S : Type 0}
    (costs : C → Bool) (m : Machine C Reply S) (p : Plan C Reply X) (n : ℕ) (s : S) →
    commands m (limited costs p (Some n)) s ≡ prefix costs n (commands m p s)
commands-limited costs m (Return x) n s = refl
commands-limited {C} {Reply} {X} {S} costs m (Ask c next) n s =
    by_price (λ less. commands-limited costs m (next (m c s).1) less (m c s).0) (costs c) n where
      by_price :
          ((less : ℕ) → commands m (limited costs (next (m c s).1) (Some less)) (m c s).0
          ≡ prefix costs less (commands m (next (m c s).1) (m c s).0)) →
          (paid : Bool) (n : ℕ) →
          commands m
          (ask_if c (Some n) (λ less reply. limited costs (next reply) less) (spent paid (Some n)))
          s
          ≡ prefix_if paid n c (λ left. prefix costs left (commands m (next (m c s).1) (m c s).0))
      by_price again false n = ap (λ rest. c ∷ rest) (again n)
      by_price again true zero = refl
      by_price again true (suc n) = ap (λ rest. c ∷ rest) (again n)

-- a plan's commands lead to where its run ends
pub after-commands : {C : Type 0} {Reply : C → Type 0} {X S : Type 0}
    (m : Machine C Reply S) (p : Plan C Reply X) (s : S) →
    after m (commands m p s) s ≡ (run m p s).0
after-commands m (Return x) s = refl
after-commands m (Ask c next) s = after-commands m (next (m c s).1) (m c s).0

-- ---- the finished list of commands, cut

-- this of what a number leaves of n, or the other where n is too small for it
abbrev within : {E : Type 0} → ℕ → ℕ → (ℕ → E) → E → E
within total n whole lost = if nat_le total n then whole (n - total) else lost

-- one command more: a free one, one that something was left for, one that nothing was left for
free_one : {E : Type 0} (total n : ℕ) (whole : ℕ → E) (lost : E) →
    within total n whole lost ≡ within (0 + total) n whole lost
free_one total n whole lost = grind arith

paid_one : {E : Type 0} (total n : ℕ) (whole : ℕ → E) (lost : E) →
    within total n whole lost ≡ within (1 + total) (suc n) whole lost
paid_one total n whole lost = grind arith

lost_one : {E : Type 0} (total : ℕ) (whole : ℕ → E) (lost : E) →
    lost ≡ within (1 + total) 0 whole lost
lost_one total whole lost = grind arith

-- how a plan ends with so much left of the fuse
abbrev end_with : {C : Type 0} {Reply : C → Type 0} {X S : Type 0} →
    Machine C Reply S → Plan C Reply X → S → ℕ → Fused S × Option X
end_with m p s left = (with_fuse (run m p s).0 (Some left), Some (run m p s).1)

-- how a plan ends where the power is lost in this state
abbrev lost_at : {S X : Type 0} → S → Fused S × Option X
lost_at s = (with_fuse s (Some 0), None)

-- the finished list, cut, of a plan with this first command, which costs or is free
abbrev cut_from : {C : Type 0} {Reply : C → Type 0} {X S : Type 0} →
    (C → Bool) → Machine C Reply S → Bool → (c : C) → (Reply c → Plan C Reply X) → S → Limit →
    Fused S × Option X
cut_from costs m paid c next s None = cut costs m (next (m c s).1) (m c s).0 None
cut_from costs m paid c next s (Some n) =
    let rest = next (m c s).1 in
    let given = commands m rest (m c s).0 in
    let first = prefix_if paid n c (λ left. prefix costs left given) in
    within (price paid + cost costs given) n (end_with m rest (m c s).0) (lost_at (after m first s))

-- a plan with a fuse ends as its finished list of commands does, cut at the fuse's number
pub fused-is-cut : {C : Type 0} {Reply : C → Type 0} {X S : Type 0}
    (costs : C → Bool) (m : Machine C Reply S) (p : Plan C Reply X) (before : Fused S) →
    fused costs m p before ≡ cut costs m p before.state before.fuse
fused-is-cut {C} {Reply} {X} {S} costs m p before = at p before.fuse before.state where
  by_price : (c : C) (next : Reply c → Plan C Reply X) (s : S) →
      ((less : Limit) → end_of (run m (limited costs (next (m c s).1) less) (m c s).0)
      ≡ cut costs m (next (m c s).1) (m c s).0 less) →
      (paid : Bool) (left : Limit) →
      end_of
      (run m (ask_if c left (λ less reply. limited costs (next reply) less) (spent paid left)) s)
      ≡ cut_from costs m paid c next s left
  by_price c next s again false None = again None
  by_price c next s again true None = again None
  by_price c next s again false (Some n) =
      let rest = next (m c s).1 in
      let given = commands m rest (m c s).0 in
      let lost : Fused S × Option X = lost_at (after m (prefix costs n given) (m c s).0) in
      again (Some n) ∙ free_one (cost costs given) n (end_with m rest (m c s).0) lost
  by_price c next s again true (Some zero) =
      let rest = next (m c s).1 in
      lost_one (cost costs (commands m rest (m c s).0)) (end_with m rest (m c s).0) (lost_at s)
  by_price c next s again true (Some (suc n)) =
      let rest = next (m c s).1 in
      let given = commands m rest (m c s).0 in
      let lost : Fused S × Option X = lost_at (after m (prefix costs n given) (m c s).0) in
      again (Some n) ∙ paid_one (cost costs given) n (end_with m rest (m c s).0) lost

  at : (p : Plan C Reply X) (left : Limit) (s : S) →
      end_of (run m (limited costs p left) s) ≡ cut costs m p s left
  at (Return x) None s = refl
  at (Return x) (Some n) s = grind arith
  at (Ask c next) left s =
      by_price c next s (λ less. at (next (m c s).1) less (m c s).0) (costs c) left

-- without a number nothing is cut
pub fused-unlimited : {C : Type 0} {Reply : C → Type 0} {X S : Type 0}
    (costs : C → Bool) (m : Machine C Reply S) (p : Plan C Reply X) (s : S) →
    fused costs m p (with_fuse s None) ≡ (with_fuse (run m p s).0 None, Some (run m p s).1)
fused-unlimited costs m p s = fused-is-cut costs m p (with_fuse s None)

-- what was within n makes n with what is left, and leaves as much more of n and more
within_left : {S X : Type 0} (total n : ℕ) (s t dark : S) (x y : X) (left : ℕ) →
    within total n (λ left. (with_fuse s (Some left), Some x)) (lost_at dark)
    ≡ (with_fuse t (Some left), Some y) →
    total + left ≡ n
within_left total n s t dark x y left ends = grind arith

within_more : {S X : Type 0} (total n more : ℕ) (s t dark dark' : S) (x y : X) (left : ℕ) →
    within total n (λ left. (with_fuse s (Some left), Some x)) (lost_at dark)
    ≡ (with_fuse t (Some left), Some y) →
    within total (n + more) (λ left. (with_fuse s (Some left), Some x)) (lost_at dark')
    ≡ (with_fuse t (Some (left + more)), Some y)
within_more total n more s t dark dark' x y left ends = grind arith

-- where a plan ends with its value, what its commands cost and what is left make the fuse
pub fused-left : {C : Type 0} {Reply : C → Type 0} {X S : Type 0}
    (costs : C → Bool) (m : Machine C Reply S) (p : Plan C Reply X)
    (s t : S) (x : X) (n left : ℕ) →
    fused costs m p (with_fuse s (Some n)) ≡ (with_fuse t (Some left), Some x) →
    cost costs (commands m p s) + left ≡ n
fused-left costs m p s t x n left ends =
    let given = commands m p s in
    let cuts = sym (fused-is-cut costs m p (with_fuse s (Some n))) ∙ ends in
    let dark = after m (prefix costs n given) s in
    within_left (cost costs given) n (run m p s).0 t dark (run m p s).1 x left cuts

-- with more in the fuse it ends alike, and leaves as much more
pub fused-more : {C : Type 0} {Reply : C → Type 0} {X S : Type 0}
    (costs : C → Bool) (m : Machine C Reply S) (p : Plan C Reply X)
    (s t : S) (x : X) (n left more : ℕ) →
    fused costs m p (with_fuse s (Some n)) ≡ (with_fuse t (Some left), Some x) →
    fused costs m p (with_fuse s (Some (n + more))) ≡ (with_fuse t (Some (left + more)), Some x)
fused-more costs m p s t x n left more ends =
    let given = commands m p s in
    let cuts = sym (fused-is-cut costs m p (with_fuse s (Some n))) ∙ ends in
    let dark = after m (prefix costs n given) s in
    let later = after m (prefix costs (n + more) given) s in
    fused-is-cut costs m p (with_fuse s (Some (n + more)))
    ∙ within_more (cost costs given) n more (run m p s).0 t dark later (run m p s).1 x left cuts

-- ---- calls, one after the other

-- the first call ended whole, and the second as its plan does from there: both as the joined plan
pub ends_then : {C : Type 0} {Reply : C → Type 0} {X Y S E : Type 0}
    (costs : C → Bool) (m : Machine C Reply S) (p : Plan C Reply X) (f : X → Plan C Reply Y)
    (lost : E) (before between after : Fused S) (x : X) (answer : Result Y E) →
    Ends (or_lost lost) (fused costs m p before) between (Ok x) →
    Ends (or_lost lost) (fused costs m (f x) between) after answer →
    Ends (or_lost lost) (fused costs m (p >>= f) before) after answer
ends_then {X = X} {Y = Y} {S = S} {E = E}
    costs m p f lost before between after x answer first second =
    let Both : Fused S × Option Y → Type 0 = λ end. Ends (or_lost lost) end after answer in
    let both = by_value (fused costs m p before).1 (fused costs m p before).0 first in
    subst Both (sym (fused-bind costs m p f before)) both where
      by_value : (o : Option X) (b : Fused S) →
          Ends (or_lost lost) (b, o) between (Ok x) →
          Ends (or_lost lost) (then_fused costs m f (b, o)) after answer
      by_value (Some y) b ends = let same : x ≡ y = cc in rw (← ends.0, ← same) second
      by_value None b ends = let clash : ◌≡◌ {A = Result X E} (Ok x) (Err lost) = ends.1 in cc

-- the first call lost the power: so did the joined plan
pub ends_lost : {C : Type 0} {Reply : C → Type 0} {X Y S E : Type 0}
    (costs : C → Bool) (m : Machine C Reply S) (p : Plan C Reply X) (f : X → Plan C Reply Y)
    (lost : E) (before after : Fused S) →
    Ends (or_lost lost) (fused costs m p before) after (Err lost) →
    Ends (or_lost lost) (fused costs m (p >>= f) before) after (Err lost)
ends_lost {X = X} {Y = Y} {S = S} {E = E} costs m p f lost before after first =
    let Both : Fused S × Option Y → Type 0 = λ end. Ends (or_lost lost) end after (Err lost) in
    let both = by_value (fused costs m p before).1 (fused costs m p before).0 first in
    subst Both (sym (fused-bind costs m p f before)) both where
      by_value : (o : Option X) (b : Fused S) →
          Ends (or_lost lost) (b, o) after (Err lost) →
          Ends (or_lost lost) (then_fused costs m f (b, o)) after (Err lost)
      by_value None b ends = (ends.0, refl)
      by_value (Some y) b ends = let clash : ◌≡◌ {A = Result X E} (Err lost) (Ok y) = ends.1 in cc
