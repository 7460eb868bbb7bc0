-- Plans: what a session, a job call, an event or a whole script asks of the outside, one command
-- after another, where each may depend on the replies so far.
use Rattle.std.specs.Prelude.{◌≡◌, ⊤}

-- a plan returns a value, or asks for a command and goes on by the reply to it
pub data Plan (C : Type 0) (Reply : C → Type 0) (X : Type 0) : Type 0 where
  Return : X → Plan C Reply X
  Ask : (c : C) → (Reply c → Plan C Reply X) → Plan C Reply X

-- the plan of one command, whose value is the reply
abbrev pub ask : {C : Type 0} {Reply : C → Type 0} → (c : C) → Plan C Reply (Reply c)
ask c = Ask c (λ reply. Return reply)

infixl 10 ◌>>=◌
-- the first plan, and then the one that its value chooses
abbrev pub ◌>>=◌ : {C : Type 0} {Reply : C → Type 0} {X Y : Type 0} →
    Plan C Reply X → (X → Plan C Reply Y) → Plan C Reply Y
(Return x) >>= f = f x
(Ask c next) >>= f = Ask c (λ reply. next reply >>= f)

-- the same by a word, for clauses
abbrev pub followed_by : {C : Type 0} {Reply : C → Type 0} {X Y : Type 0} →
    Plan C Reply X → (X → Plan C Reply Y) → Plan C Reply Y
followed_by p f = p >>= f

-- a machine carries commands out: by a command and a state, the state after it and the reply
abbrev pub Machine : (C : Type 0) → (C → Type 0) → Type 0 → Type 0
Machine C Reply S = (c : C) → S → S × Reply c

-- a plan run on a machine: the state after it, and its value
abbrev pub run : {C : Type 0} {Reply : C → Type 0} {X S : Type 0} →
    Machine C Reply S → Plan C Reply X → S → S × X
run m (Return x) s = (s, x)
run m (Ask c next) s = run m (next (m c s).1) (m c s).0

-- the fact holds of each command of the plan's run, in the state in which it is given
abbrev pub Throughout : {C : Type 0} {Reply : C → Type 0} {X S : Type 0} →
    Machine C Reply S → (C → S → Type 0) → Plan C Reply X → S → Type 0
Throughout m Fact (Return x) s = ⊤
Throughout m Fact (Ask c next) s = Fact c s × Throughout m Fact (next (m c s).1) (m c s).0

-- the plan gives only such commands, whatever the replies are
abbrev pub GivesOnly : {C : Type 0} {Reply : C → Type 0} {X : Type 0} →
    (C → Type 0) → Plan C Reply X → Type 0
GivesOnly Such (Return x) = ⊤
GivesOnly {Reply = Reply} Such (Ask c next) =
    Such c × ((reply : Reply c) → GivesOnly Such (next reply))

-- two runs end alike: in states that agree, and with one value
abbrev pub EndAlike : {S T X : Type 0} → (S → T → Type 0) → S × X → T × X → Type 0
EndAlike Agree end other = Agree end.0 other.0 × (end.1 ≡ other.1)

-- a command of which the fact holds ends alike on two machines whose states agree
abbrev pub AnswerAlike : {C : Type 0} {Reply : C → Type 0} {S T : Type 0} →
    Machine C Reply S → Machine C Reply T → (C → T → Type 0) → (S → T → Type 0) → Type 0
AnswerAlike {C} {Reply} {S} {T} m n Fact Agree =
    (c : C) (s : S) (t : T) → Fact c t → Agree s t → EndAlike Agree (m c s) (n c t)
