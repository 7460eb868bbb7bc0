-- Laws of plans of parts.
use Rattle.std.specs.Prelude.{◌≡◌, zero, suc, Bool, Option, Some, None, Result, Ok, Err}
use Rattle.flk_base.specs.Plan.{Plan, Return, Ask, ask, Machine, ◌>>=◌, run, Throughout}
use Rattle.flk_base.specs.Plan.{AnswerAlike}
use Rattle.flk_base.specs.PlanLaws.{run-bind, plans_alike, throughout-bind}
use Rattle.flk_base.specs.Stop.{Limit, limited, Fused, fused, then_fused, Ends}
use Rattle.flk_base.specs.StopLaws.{fused-bind}
use Rattle.flk_base.specs.Parts.{expanded, by_plans, each_part, reported_in_parts, EndsInParts}
use Rattle.std.proofs.Common.{refl, sym, ◌∙◌, ap, subst}

-- a plan of parts as a plan of commands runs as its parts do, each by its own plan
pub run-expanded : {C B : Type 0} {Reply : C → Type 0} {Answer : B → Type 0} {X S : Type 0}
    (own : (b : B) → Plan C Reply (Answer b)) (m : Machine C Reply S)
    (p : Plan B Answer X) (s : S) →
    run m (expanded own p) s ≡ run (by_plans own m) p s
run-expanded own m (Return x) s = refl
run-expanded own m (Ask b next) s =
    run-bind m (own b) (λ answer. expanded own (next answer)) s
    ∙ run-expanded own m (next (run m (own b) s).1) (run m (own b) s).0

-- a fact throughout the plan of commands holds throughout each part's own plan
pub throughout-expanded : {C B : Type 0} {Reply : C → Type 0} {Answer : B → Type 0} {X S : Type 0}
    (own : (b : B) → Plan C Reply (Answer b)) (m : Machine C Reply S) (Fact : C → S → Type 0)
    (p : Plan B Answer X) (s : S) →
    Throughout m Fact (expanded own p) s →
    Throughout (by_plans own m) (λ b s. Throughout m Fact (own b) s) p s
throughout-expanded own m Fact (Return x) s facts = tt
throughout-expanded own m Fact (Ask b next) s facts =
    let both = throughout-bind m Fact (own b) (λ answer. expanded own (next answer)) s facts in (
      both.0,
      throughout-expanded own m Fact (next (run m (own b) s).1) (run m (own b) s).0 both.1,
    )

-- two machines that answer each command alike carry out each part alike
pub parts_alike : {C B : Type 0} {Reply : C → Type 0} {Answer : B → Type 0} {S T : Type 0}
    (own : (b : B) → Plan C Reply (Answer b)) (m : Machine C Reply S) (n : Machine C Reply T)
    (Fact : C → T → Type 0) (Agree : S → T → Type 0) →
    AnswerAlike m n Fact Agree →
    AnswerAlike (by_plans own m) (by_plans own n) (λ b t. Throughout n Fact (own b) t) Agree
parts_alike own m n Fact Agree law b s t facts agree =
    plans_alike m n Fact Agree law (own b) s t facts agree

-- ---- calls that carry out parts, one after the other

-- memory for one part more
abbrev one_more : Limit → Limit
one_more None = None
one_more (Some n) = Some (suc n)

-- the parts after the first, with memory for so many, from where the first part's own plan ended
abbrev the_rest : {C B : Type 0} {Reply : C → Type 0} {Answer : B → Type 0} {Z X S : Type 0} →
    (C → Bool) → Machine C Reply S → ((b : B) → Plan C Reply (Answer b)) →
    (Z → Plan B Answer X) → Limit → Fused S × Option Z → Fused S × Option (Limit × Option X)
the_rest costs m own next memory end =
    then_fused costs m (λ a. expanded own (limited each_part (next a) memory)) end

-- parts with a fuse are the first part's own plan, and then the rest, with memory for one less
first-then-rest : {C B : Type 0} {Reply : C → Type 0} {Answer : B → Type 0} {X S : Type 0}
    (costs : C → Bool) (m : Machine C Reply S) (own : (b : B) → Plan C Reply (Answer b))
    (b : B) (next : Answer b → Plan B Answer X) (memory : Limit) (before : Fused S) →
    fused costs m (expanded own (limited each_part (Ask b next) (one_more memory))) before
    ≡ the_rest costs m own next memory (fused costs m (own b) before)
first-then-rest costs m own b next None before =
    fused-bind costs m (own b) (λ a. expanded own (limited each_part (next a) None)) before
first-then-rest costs m own b next (Some n) before =
    fused-bind costs m (own b) (λ a. expanded own (limited each_part (next a) (Some n))) before

-- the first part was reported so; the call ended there at a loss of power, else with the rest
in_turn : {C B : Type 0} {Reply : C → Type 0} {Answer : B → Type 0} {X Y Z S E : Type 0}
    (no_memory lost : E) (reports : X → Result Y E)
    (costs : C → Bool) (m : Machine C Reply S) (own : (b : B) → Plan C Reply (Answer b))
    (b : B) (first : Answer b → Result Z E) (next : Answer b → Plan B Answer X)
    (before between after : Fused S) (z : Result Z E) (answer : Result Y E) (left : Limit) →
    (z ≡ Err lost → (between ≡ after) × (answer ≡ Err lost)) →
    ((a : Answer b) → z ≡ first a → EndsInParts (reported_in_parts no_memory lost reports)
    costs m own (next a) between after answer) →
    Ends (reported_in_parts no_memory lost first)
    (fused costs m (own b >>= λ a. Return (left, Some a)) before) between z →
    EndsInParts (reported_in_parts no_memory lost reports)
    costs m own (Ask b next) before after answer
in_turn {C} {B} {Reply} {Answer} {X} {Y} {Z} {S} {E}
    no_memory lost reports costs m own b first next before between after z answer left
    dark rest ends =
    let First : Fused S × Option (Limit × Option (Answer b)) → Type 0 =
    λ end. Ends (reported_in_parts no_memory lost first) end between z in
    let split = fused-bind costs m (own b) (λ a. Return (left, Some a)) before in
    by_end (fused costs m (own b) before) refl (subst First split ends) where
      all : (memory : Limit) (end : Fused S × Option (Answer b)) →
          fused costs m (own b) before ≡ end →
          Ends (reported_in_parts no_memory lost reports)
          (the_rest costs m own next memory end) after answer →
          EndsInParts (reported_in_parts no_memory lost reports)
          costs m own (Ask b next) before after answer
      all memory end is e =
          let All : Fused S × Option (Limit × Option X) → Type 0 =
          λ end. Ends (reported_in_parts no_memory lost reports) end after answer in
          let split = first-then-rest costs m own b next memory before in
          (one_more memory, subst All (sym (split ∙ ap (the_rest costs m own next memory) is)) e)

      by_end : (end : Fused S × Option (Answer b)) → fused costs m (own b) before ≡ end →
          Ends (reported_in_parts no_memory lost first)
          (then_fused costs m (λ a. Return (left, Some a)) end) between z →
          EndsInParts (reported_in_parts no_memory lost reports)
          costs m own (Ask b next) before after answer
      by_end (here, None) is e =
          let over = dark e.1 in all None (here, None) is (sym over.0 ∙ e.0, over.1)
      by_end (here, Some a) is e =
          let on = rest a e.1 in all on.0 (here, Some a) is (rw (← e.0) on.1)

-- the first part was reported as a value, and the rest ended as its plan does: so do all parts
pub parts_then : {C B : Type 0} {Reply : C → Type 0} {Answer : B → Type 0} {X Y Z S E : Type 0}
    (no_memory lost : E) (reports : X → Result Y E)
    (costs : C → Bool) (m : Machine C Reply S) (own : (b : B) → Plan C Reply (Answer b))
    (b : B) (first : Answer b → Result Z E) (next : Answer b → Plan B Answer X)
    (before between after : Fused S) (z : Z) (answer : Result Y E) →
    EndsInParts (reported_in_parts no_memory lost first)
    costs m own (ask b) before between (Ok z) →
    ((a : Answer b) → ◌≡◌ {A = Result Z E} (Ok z) (first a) →
    EndsInParts (reported_in_parts no_memory lost reports)
    costs m own (next a) between after answer) →
    EndsInParts (reported_in_parts no_memory lost reports)
    costs m own (Ask b next) before after answer
parts_then {C} {B} {Reply} {Answer} {X} {Y} {Z} {S} {E}
    no_memory lost reports costs m own b first next before between after z answer ends rest =
    by_memory ends.0 ends.1 where
      no_error : (error : E) → ◌≡◌ {A = Result Z E} (Ok z) (Err error) → ⊥
      no_error error is = cc

      by_left : (left : Limit) →
          Ends (reported_in_parts no_memory lost first)
          (fused costs m (own b >>= λ a. Return (left, Some a)) before) between (Ok z) →
          EndsInParts (reported_in_parts no_memory lost reports)
          costs m own (Ask b next) before after answer
      by_left left e =
          in_turn no_memory lost reports costs m own b first next before between after
          (Ok z) answer left (λ is. absurd (no_error lost is)) rest e

      by_memory : (memory : Limit) →
          Ends (reported_in_parts no_memory lost first)
          (fused costs m (expanded own (limited each_part (ask b) memory)) before) between (Ok z) →
          EndsInParts (reported_in_parts no_memory lost reports)
          costs m own (Ask b next) before after answer
      by_memory None e = by_left None e
      by_memory (Some zero) e = absurd (no_error no_memory e.1)
      by_memory (Some (suc n)) e = by_left (Some n) e

-- the first part was reported as an error, with which the rest would end at once: so do all parts
pub parts_fail : {C B : Type 0} {Reply : C → Type 0} {Answer : B → Type 0} {X Y Z S E : Type 0}
    (no_memory lost : E) (reports : X → Result Y E)
    (costs : C → Bool) (m : Machine C Reply S) (own : (b : B) → Plan C Reply (Answer b))
    (b : B) (first : Answer b → Result Z E) (next : Answer b → Plan B Answer X)
    (before after : Fused S) (error : E) →
    EndsInParts (reported_in_parts no_memory lost first)
    costs m own (ask b) before after (Err error) →
    ((a : Answer b) → ◌≡◌ {A = Result Z E} (Err error) (first a) →
    EndsInParts (reported_in_parts no_memory lost reports)
    costs m own (next a) after after (Err error)) →
    EndsInParts (reported_in_parts no_memory lost reports)
    costs m own (Ask b next) before after (Err error)
parts_fail {C} {B} {Reply} {Answer} {X} {Y} {Z} {S} {E}
    no_memory lost reports costs m own b first next before after error ends rest =
    by_memory ends.0 ends.1 where
      one_error : (other : E) → ◌≡◌ {A = Result Z E} (Err error) (Err other) →
          ◌≡◌ {A = Result Y E} (Err error) (Err other)
      one_error other is =
          let same : error ≡ other = cc in
          ap (λ (e : E). let answer : Result Y E = Err e in answer) same

      by_left : (left : Limit) →
          Ends (reported_in_parts no_memory lost first)
          (fused costs m (own b >>= λ a. Return (left, Some a)) before) after (Err error) →
          EndsInParts (reported_in_parts no_memory lost reports)
          costs m own (Ask b next) before after (Err error)
      by_left left e =
          in_turn no_memory lost reports costs m own b first next before after after
          (Err error) (Err error) left (λ is. (refl, one_error lost is)) rest e

      by_memory : (memory : Limit) →
          Ends (reported_in_parts no_memory lost first)
          (fused costs m (expanded own (limited each_part (ask b) memory)) before)
          after (Err error) →
          EndsInParts (reported_in_parts no_memory lost reports)
          costs m own (Ask b next) before after (Err error)
      by_memory None e = by_left None e
      by_memory (Some zero) e = (Some 0, (e.0, one_error no_memory e.1))
      by_memory (Some (suc n)) e = by_left (Some n) e
