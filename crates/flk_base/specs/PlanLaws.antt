-- Laws of plans on any machine. Each is an induction of two cases, and none speaks of stops: a plan
-- that is stopped is a plan too.
use Rattle.std.specs.Prelude.{◌≡◌}
use Rattle.flk_base.specs.Plan.{Plan, Return, Ask, Machine, ◌>>=◌, run, Throughout, GivesOnly}
use Rattle.flk_base.specs.Plan.{EndAlike, AnswerAlike}
use Rattle.std.proofs.Common.{refl, sym, subst}

-- two plans, one after the other, run as the first and then, from where it ends, the second
pub run-bind : {C : Type 0} {Reply : C → Type 0} {X Y S : Type 0}
    (m : Machine C Reply S) (p : Plan C Reply X) (f : X → Plan C Reply Y) (s : S) →
    run m (p >>= f) s ≡ run m (f (run m p s).1) (run m p s).0
run-bind m (Return x) f s = refl
run-bind m (Ask c next) f s = run-bind m (next (m c s).1) f (m c s).0

-- two machines that answer each command alike answer each plan alike
pub plans_alike : {C : Type 0} {Reply : C → Type 0} {X S T : Type 0}
    (m : Machine C Reply S) (n : Machine C Reply T)
    (Fact : C → T → Type 0) (Agree : S → T → Type 0) →
    AnswerAlike m n Fact Agree →
    (p : Plan C Reply X) (s : S) (t : T) → Throughout n Fact p t → Agree s t →
    EndAlike Agree (run m p s) (run n p t)
plans_alike m n Fact Agree law (Return x) s t facts agree = (agree, refl)
plans_alike {Reply = Reply} m n Fact Agree law (Ask c next) s t facts agree =
    let one = law c s t facts.0 agree in
    let Alike : Reply c → Type 0 =
    λ reply. EndAlike Agree (run m (next reply) (m c s).0) (run n (next (n c t).1) (n c t).0) in
    let rest = plans_alike m n Fact Agree law (next (n c t).1) (m c s).0 (n c t).0 facts.1 one.0 in
    subst Alike (sym one.1) rest

-- what each command keeps, each plan keeps
pub plans_keep : {C : Type 0} {Reply : C → Type 0} {X S : Type 0}
    (m : Machine C Reply S) (Kept : S → Type 0) →
    ((c : C) (s : S) → Kept s → Kept (m c s).0) →
    (p : Plan C Reply X) (s : S) → Kept s → Kept (run m p s).0
plans_keep m Kept law (Return x) s kept = kept
plans_keep m Kept law (Ask c next) s kept =
    plans_keep m Kept law (next (m c s).1) (m c s).0 (law c s kept)

-- a fact that holds of every command in every state holds throughout
pub always_throughout : {C : Type 0} {Reply : C → Type 0} {X S : Type 0}
    (m : Machine C Reply S) (Fact : C → S → Type 0) →
    ((c : C) (s : S) → Fact c s) →
    (p : Plan C Reply X) (s : S) → Throughout m Fact p s
always_throughout m Fact law (Return x) s = tt
always_throughout m Fact law (Ask c next) s =
    (law c s, always_throughout m Fact law (next (m c s).1) (m c s).0)

-- a fact throughout two plans, one after the other, holds throughout each
pub throughout-bind : {C : Type 0} {Reply : C → Type 0} {X Y S : Type 0}
    (m : Machine C Reply S) (Fact : C → S → Type 0)
    (p : Plan C Reply X) (f : X → Plan C Reply Y) (s : S) →
    Throughout m Fact (p >>= f) s →
    Throughout m Fact p s × Throughout m Fact (f (run m p s).1) (run m p s).0
throughout-bind m Fact (Return x) f s facts = (tt, facts)
throughout-bind m Fact (Ask c next) f s facts =
    let rest = throughout-bind m Fact (next (m c s).1) f (m c s).0 facts.1 in
    ((facts.0, rest.0), rest.1)

-- two facts that hold throughout give throughout what they give together
pub throughout_both : {C : Type 0} {Reply : C → Type 0} {X S : Type 0}
    (m : Machine C Reply S) (One Other Both : C → S → Type 0) →
    ((c : C) (s : S) → One c s → Other c s → Both c s) →
    (p : Plan C Reply X) (s : S) →
    Throughout m One p s → Throughout m Other p s → Throughout m Both p s
throughout_both m One Other Both join (Return x) s one other = tt
throughout_both m One Other Both join (Ask c next) s one other = (
  join c s one.0 other.0,
  throughout_both m One Other Both join (next (m c s).1) (m c s).0 one.1 other.1,
)

-- a plan that gives only such commands gives only such on every machine
pub only-throughout : {C : Type 0} {Reply : C → Type 0} {X S : Type 0}
    (m : Machine C Reply S) (Such : C → Type 0) (p : Plan C Reply X) (s : S) →
    GivesOnly Such p → Throughout m (λ c s. Such c) p s
only-throughout m Such (Return x) s only = tt
only-throughout m Such (Ask c next) s only =
    (only.0, only-throughout m Such (next (m c s).1) (m c s).0 (only.1 (m c s).1))

-- two plans that give only such commands, one after the other, give only such
pub only-bind : {C : Type 0} {Reply : C → Type 0} {X Y : Type 0}
    (Such : C → Type 0) (p : Plan C Reply X) (f : X → Plan C Reply Y) →
    GivesOnly Such p → ((x : X) → GivesOnly Such (f x)) → GivesOnly Such (p >>= f)
only-bind Such (Return x) f only then_only = then_only x
only-bind Such (Ask c next) f only then_only =
    (only.0, λ reply. only-bind Such (next reply) f (only.1 reply) then_only)

-- what is good after a plan was good before it, where that is so of each command
pub good_before : {C : Type 0} {Reply : C → Type 0} {X S : Type 0}
    (m : Machine C Reply S) (Good : S → Type 0) →
    ((c : C) (s : S) → Good (m c s).0 → Good s) →
    (p : Plan C Reply X) (s : S) → Good (run m p s).0 → Good s
good_before m Good back (Return x) s good = good
good_before m Good back (Ask c next) s good =
    back c s (good_before m Good back (next (m c s).1) (m c s).0 good)

-- a fact that each command has where what follows it is good holds throughout, if the end is good
pub throughout_from_end : {C : Type 0} {Reply : C → Type 0} {X S : Type 0}
    (m : Machine C Reply S) (Good : S → Type 0) (Fact : C → S → Type 0) →
    ((c : C) (s : S) → Good (m c s).0 → Good s) →
    ((c : C) (s : S) → Good (m c s).0 → Fact c s) →
    (p : Plan C Reply X) (s : S) → Good (run m p s).0 → Throughout m Fact p s
throughout_from_end m Good Fact back law (Return x) s good = tt
throughout_from_end m Good Fact back law (Ask c next) s good = (
  law c s (good_before m Good back (next (m c s).1) (m c s).0 good),
  throughout_from_end m Good Fact back law (next (m c s).1) (m c s).0 good,
)
