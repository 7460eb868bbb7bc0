-- Checks in their order, each of which gives a value or a fault; and a function's answer against
-- what they come to.
use Rattle.std.specs.Prelude.{◌≡◌, Option, IfSome, MatchOption, Result, Ok, Err, IsOk}

infixl 10 ◌>>=◌
-- the second check, where the first found no fault
abbrev pub ◌>>=◌ : {A B E : Type 0} → Result A E → (A → Result B E) → Result B E
Ok x >>= f = f x
Err fault >>= f = Err fault

-- what a function returned is what the checks come to: its value, seen by view, or the fault that
-- its error stands for. An error that stands for none says that memory ran out, and nothing of the
-- checks.
abbrev pub Gives : {X Y E F : Type 0} → (E → Option F) → (X → Y) → Result X E → Result Y F → Type 0
Gives fault_of view (Ok x) checked = checked ≡ Ok (view x)
Gives fault_of view (Err error) checked = IfSome (fault_of error) (λ fault. checked ≡ Err fault)

-- the same of a function that finds every fault before it allocates: it runs out of memory only
-- where there is a value
abbrev pub GivesFaultFirst : {X Y E F : Type 0} → (E → Option F) → (X → Y) → Result X E → Result Y F
    → Type 0
GivesFaultFirst fault_of view (Ok x) checked = checked ≡ Ok (view x)
GivesFaultFirst fault_of view (Err error) checked =
    MatchOption (fault_of error) (IsOk checked) (λ fault. checked ≡ Err fault)
