-- Plans of larger parts, as a job call of whole sessions: each part is a plan of commands itself.
use Rattle.std.specs.Prelude.{Bool, true, Option, Some, None, Result, Err}
use Rattle.flk_base.specs.Plan.{Plan, Return, Ask, ◌>>=◌, Machine, run}
use Rattle.flk_base.specs.Stop.{Limit, limited, Fused, fused, Ends}

-- a plan of parts as a plan of commands: each part's own plan stands in the part's stead
abbrev pub expanded : {C B : Type 0} {Reply : C → Type 0} {Answer : B → Type 0} {X : Type 0} →
    ((b : B) → Plan C Reply (Answer b)) → Plan B Answer X → Plan C Reply X
expanded own (Return x) = Return x
expanded own (Ask b next) = own b >>= λ answer. expanded own (next answer)

-- the machine that carries out parts, each by its own plan
abbrev pub by_plans : {C B : Type 0} {Reply : C → Type 0} {Answer : B → Type 0} {S : Type 0} →
    ((b : B) → Plan C Reply (Answer b)) → Machine C Reply S → Machine B Answer S
by_plans own m b s = run m (own b) s

-- each part allocates before it begins
abbrev pub each_part : {B : Type 0} → B → Bool
each_part b = true

-- a value is reported by this function, and the ends of memory and of power by these errors
abbrev pub reported_in_parts : {X Y E : Type 0} →
    E → E → (X → Result Y E) → Option (Limit × Option X) → Result Y E
reported_in_parts no_memory lost reports None = Err lost
reported_in_parts no_memory lost reports (Some (left, None)) = Err no_memory
reported_in_parts no_memory lost reports (Some (left, Some x)) = reports x

-- a call in parts: memory lasts for some number of whole parts, whose commands take from the fuse
abbrev pub EndsInParts : {C B : Type 0} {Reply : C → Type 0} {Answer : B → Type 0}
    {X Y S : Type 0} →
    (Option (Limit × Option X) → Y) → (C → Bool) → Machine C Reply S →
    ((b : B) → Plan C Reply (Answer b)) → Plan B Answer X → Fused S → Fused S → Y → Type 0
EndsInParts reports costs m own parts before after answer =
    (memory : Limit) ×
    Ends reports
    (fused costs m (expanded own (limited each_part parts memory)) before) after answer
