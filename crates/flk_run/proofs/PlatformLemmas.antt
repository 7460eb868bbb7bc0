-- The tasks of events, and which of them may allocate.
use Rattle.std.proofs.Common.{◌≡◌, ℕ, ◌≤◌, true, false, List, [], length, refl, sym, ◌∙◌, arith}
use Rattle.std.specs.Prelude.{◌∷◌, ◌==◌, nat_lt, Option, Some, None, Result, Ok, Err, IsOk, ◌↔◌}
use Rattle.slb_image.specs.declared.fault.ImageFault.{ImageFault}
use Rattle.std.proofs.lemmas.Bool.Decides.{nat_tests}
use Rattle.expr_text.specs.declared.value.TheConstants.{LONGEST_VALUE}
use Rattle.expr_text.specs.declared.value.ExprFault.{ExprFault}
use Rattle.expr_text.specs.Variables.{Table}
use Rattle.expr_text.specs.Values.{value_of}
use Rattle.script_text.specs.Grammar.{Request, SessionOf, QuoteOf, CheckOf, OverwriteOf}
use Rattle.flk_run.specs.Tasks.{Task, Rest, Refuse, Read, Give, SetRegister, ShowRegisters, ReadCounter, Draw, MayAllocate, MayAllocateFor, task_or_fault, image_or_fault, peek_or_long, task_of}
use Rattle.flk_run.specs.Seen.{binds, takes}

-- values for which no fault is answered have none
pub has_image : {T E : Type 0} (view : ImageFault
    → E) (r : Result T E) (made : T) (fault : Option ImageFault) → r ≡ Ok made
    → ((f : ImageFault) → (r ≡ Err (view f)) ↔ (fault ≡ Some f)) → fault ≡ None
has_image view r made None is only = refl
has_image view r made (Some f) is only = let e = (only f).1 refl in cc

-- nor have values one for which each fault's answer is another
pub no_fault : {T E : Type 0} (view : ImageFault → E) (r : Result T E) (fault : Option ImageFault)
    → ((f : ImageFault) → r ≡ Err (view f) → ⊥)
    → ((f : ImageFault) → (r ≡ Err (view f)) ↔ (fault ≡ Some f)) → fault ≡ None
no_fault view r None none only = refl
no_fault view r (Some f) none only = absurd (none f ((only f).1 refl))

nothing : (xs : List ℕ) → length xs ≡ 0 → xs ≡ []
nothing [] h = refl
nothing (x ∷ xs) h = absurd (omega (arith, h))

-- an answer without bytes is no line
pub no_line : (line made : List ℕ) → made ≡ line → true ≡ (length made == 0) → line ≡ []
no_line line made same empty = sym same ∙ nothing made (grind (arith, nat_tests, empty))

-- ---- tasks that may allocate

-- that of an expression may, if it may with each value
pub allocates_worth : (value : Result (List ℕ) ExprFault) (task : List ℕ → Task)
    → ((bytes : List ℕ) → MayAllocate (task bytes)) → IsOk value
    → MayAllocate (task_or_fault value task)
allocates_worth (Ok bytes) task each has = each bytes
allocates_worth (Err fault) task each has = absurd (cc)

-- an image may, and its fault
pub allocates_image : (name : List ℕ) (fault : Option ImageFault) (image : List ℕ)
    → MayAllocate (image_or_fault name fault image)
allocates_image name None image = tt
allocates_image name (Some fault) image = tt

pub allocates_peek : (at count : ℕ) → count ≤ LONGEST_VALUE → MayAllocate (peek_or_long at count)
allocates_peek at count few =
    let short : nat_lt LONGEST_VALUE count ≡ false = grind (arith, nat_tests) in rw short tt

pub allocates_binding : (task : Task) → binds task ≡ true → MayAllocate task
allocates_binding Rest h = absurd (cc)
allocates_binding (Refuse why) h = absurd (cc)
allocates_binding (Read r) h = absurd (cc)
allocates_binding (Give at) h = absurd (cc)
allocates_binding (SetRegister reg n) h = absurd (cc)
allocates_binding ShowRegisters h = absurd (cc)
allocates_binding (ReadCounter id) h = absurd (cc)
allocates_binding (Draw None) h = absurd (cc)
allocates_binding (Draw (Some name)) h = tt
allocates_binding _ h = tt

pub allocates_ticket : (task : Task) → takes task ≡ true → MayAllocate task
allocates_ticket Rest h = absurd (cc)
allocates_ticket (Refuse why) h = absurd (cc)
allocates_ticket (Read r) h = absurd (cc)
allocates_ticket (Give at) h = absurd (cc)
allocates_ticket (SetRegister reg n) h = absurd (cc)
allocates_ticket ShowRegisters h = absurd (cc)
allocates_ticket (ReadCounter id) h = absurd (cc)
allocates_ticket (Draw None) h = absurd (cc)
allocates_ticket (Draw (Some name)) h = absurd (cc)
allocates_ticket _ h = tt

-- where the task for a value may, there is one
has_value : (value : Result (List ℕ) ExprFault) (task : List ℕ → Task)
    → MayAllocate (task_or_fault value task) → IsOk value
has_value (Ok bytes) task may = refl
has_value (Err fault) task may = absurd may

-- a request may allocate where its task does
pub may_for : (request : Request) (table : Table) → MayAllocate (task_of request table)
    → MayAllocateFor request table
may_for (SessionOf image inputs nonce var) table may = has_value (value_of image table) _ may
may_for (QuoteOf nonce var) table may = has_value (value_of nonce table) _ may
may_for (CheckOf quote image inputs outputs end nonce texts) table may =
    has_value (value_of quote table) _ may
may_for (OverwriteOf j s blob) table may = has_value (value_of blob table) _ may
may_for _ table may = may
