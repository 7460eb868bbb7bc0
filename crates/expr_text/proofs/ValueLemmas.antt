-- The value of terms, by the windows that their suffixes leave.
use Rattle.std.proofs.Common.{◌≡◌, inl, inr, ℕ, ◌+◌, ◌-◌, ◌≤◌, List, [], ◌∷◌, ◌++◌, length, take, drop, cond, Bool, false, refl, sym, ap, subst, ◌∙◌, arith, append_assoc, append-nil, length-append, length-drop}
use Rattle.std.specs.Prelude.{Option, Some, None, IfSome, MatchOption, Result, Ok, Err, IsOk, IfOk, OnOk, is_err, nat_le}
use Rattle.std.proofs.lemmas.Bool.{cases_Bool, leb-true}
use Rattle.std.proofs.lemmas.List.{length-take-le}
use Rattle.flk_base.specs.Checks.{◌>>=◌, GivesFaultFirst}
use Rattle.expr_text.specs.Expressions.{Suffix, Term}
use Rattle.expr_text.specs.SeenExpressions.{expr_fault}
use Rattle.expr_text.specs.Variables.{Table}
use Rattle.expr_text.specs.Values.{atom_value, suffixes_value, term_value, sum_value, value_of}
use Rattle.expr_text.specs.declared.value.TheConstants.{LONGEST_VALUE}
use Rattle.expr_text.specs.Windows.{window_after_all, changes_by, values_of, length_of, sum_length, whole_window}
use Rattle.expr_text.specs.declared.value.Window.{Window}
use Rattle.expr_text.specs.declared.value.ExprFault.{ExprFault}
use Rattle.expr_text.specs.declared.value.ExprFault.TheVariants.{Long}
use Rattle.expr_text.specs.declared.value.ExprError.{ExprError}
use Rattle.expr_text.proofs.WindowLemmas.{Left, outcome, length-changes_by}

-- ---- one term

-- the bytes of a window of an atom's value, as suffixes leave them
abbrev pub remaining : List Suffix → List ℕ → Window → List ℕ
remaining ss xs w = changes_by ss 0 w.from (take w.len (drop w.from xs))

kept : (ss : List Suffix) (xs : List ℕ) (len : ℕ) (w left : Window)
    → Left ss xs (whole_window len) left → window_after_all ss (whole_window len) ≡ Ok w
    → (suffixes_value ss xs ≡ Ok (remaining ss xs w)) × (length (remaining ss xs w) ≡ w.len)
kept ss xs len w left h is =
    let there = h.window in
    let same : left ≡ w = cc in
    let none : left.from - 0 ≡ left.from = omega arith in
    let fits : length (take left.len (drop left.from xs))
    ≡ left.len = length-take-le left.len (drop left.from xs)
    (omega (arith, length-drop left.from xs, h.within)) in (
      h.bytes ∙ ap (λ k. Ok (changes_by ss 0 left.from (take left.len (drop k xs)))) none
          ∙ ap (λ v. Ok (remaining ss xs v)) same,
      ap (λ v. length (remaining ss xs v)) (sym same)
          ∙ length-changes_by ss 0 left.from (take left.len (drop left.from xs)) ∙ fits
          ∙ ap (λ v. v.len) same,
    )

module _ (table : Table) (term : Term) (xs : List ℕ) (len : ℕ) where
  -- where the suffixes leave a window, the term has its bytes
  pub term_left : (w : Window) → atom_value table term.atom ≡ Ok xs → len ≡ length xs
      → window_after_all term.suffixes (whole_window len) ≡ Ok w
      → (term_value table term ≡ Ok (remaining term.suffixes xs w))
      × (length (remaining term.suffixes xs w) ≡ w.len)
  term_left w atom e is =
      elim (outcome term.suffixes xs (whole_window len) e) [
        | inl left ↦ let k = kept term.suffixes xs len w left.0 left.1 is in (rw atom k.0, k.1)
        | inr bad ↦ let no = bad.1.window in absurd (cc)
      ]

  -- and else their fault
  pub term_fault : (fault : ExprFault) → atom_value table term.atom ≡ Ok xs → len ≡ length xs
      → window_after_all term.suffixes (whole_window len) ≡ Err fault
      → term_value table term ≡ Err fault
  term_fault fault atom e is =
      elim (outcome term.suffixes xs (whole_window len) e) [
        | inl left ↦ let no = left.1.window in absurd (cc)
        | inr bad ↦ let there = bad.1.window in let same : bad.0
            ≡ fault = cc in rw atom (bad.1.bytes ∙ ap (λ f. Err f) same)
      ]

-- what was done without an error
pub done : {T E : Type 0} (r : Result T E) (b : Bool) (P : Type 0) → b ≡ is_err r → b ≡ false
    → OnOk r P → P
done (Ok _) b P e f h = h
done (Err _) b P e f h = absurd (cc)

-- ---- all the terms

-- what stands before a value, and it
abbrev pub after : List ℕ → Result (List ℕ) ExprFault → Result (List ℕ) ExprFault
after bytes value = value >>= λ more. Ok (bytes ++ more)

after_one : (xs ys : List ℕ) (r : Result (List ℕ) ExprFault)
    → after xs (r >>= λ more. Ok (ys ++ more)) ≡ after (xs ++ ys) r
after_one xs ys (Ok more) = ap (λ zs. Ok zs) (sym (append_assoc xs ys more))
after_one xs ys (Err fault) = refl

pub after_nil : (r : Result (List ℕ) ExprFault) → after [] r ≡ r
after_nil (Ok more) = refl
after_nil (Err fault) = refl

-- one more term is appended
pub joined_more : (table : Table) (term : Term) (terms : List Term) (bytes more : List ℕ)
    (all : Result (List ℕ) ExprFault) → term_value table term ≡ Ok more
    → after bytes (values_of table (term ∷ terms)) ≡ all
    → after (bytes ++ more) (values_of table terms) ≡ all
joined_more table term terms bytes more all is before =
    sym (after_one bytes more (values_of table terms)) ∙ rw is at before

pub joined_fault : (table : Table) (term : Term) (terms : List Term) (bytes : List ℕ)
    (all : Result (List ℕ) ExprFault) (fault : ExprFault) → term_value table term ≡ Err fault
    → after bytes (values_of table (term ∷ terms)) ≡ all → all ≡ Err fault
joined_fault table term terms bytes all fault is before = sym (rw is at before)

-- the length of the sum
sum_step : (table : Table) (sum : List ℕ) (terms : List Term) (r : Result (List ℕ) ExprFault)
    → ((ys : List ℕ) → length_of (sum_value table (sum ++ ys) terms)
    ≡ sum_length table (length (sum ++ ys)) terms)
    → length_of (r >>= λ bytes. cond (nat_le (length sum + length bytes) LONGEST_VALUE)
    (sum_value table (sum ++ bytes) terms) (Err Long))
    ≡ (length_of r >>= λ len. cond (nat_le (length sum + len) LONGEST_VALUE)
    (sum_length table (length sum + len) terms) (Err Long))
sum_step table sum terms (Err fault) h = refl
sum_step table sum terms (Ok ys) h =
    elim (cases_Bool (nat_le (length sum + length ys) LONGEST_VALUE)) [
      | inl fits ↦ rw fits (h ys ∙ ap (λ n. sum_length table n terms) (length-append sum ys))
      | inr long ↦ rw long refl
    ]

pub length-sum_value : (table : Table) (sum : List ℕ) (terms : List Term)
    → length_of (sum_value table sum terms) ≡ sum_length table (length sum) terms
length-sum_value table sum [] = refl
length-sum_value table sum (term ∷ terms) =
    sum_step table sum terms (term_value table term) (λ ys. length-sum_value table (sum
    ++ ys) terms)

-- a sum that is not too long is what the terms have together
abbrev Joins : List ℕ → List ℕ → Result (List ℕ) ExprFault → Type 0
Joins total sum rest = (more : List ℕ) × (rest ≡ Ok more) × (total ≡ sum ++ more)

joins_step : (table : Table) (sum total : List ℕ) (terms : List Term)
    (r : Result (List ℕ) ExprFault)
    → ((ys : List ℕ) → sum_value table (sum ++ ys) terms ≡ Ok total
    → Joins total (sum ++ ys) (values_of table terms))
    → (r >>= λ bytes. cond (nat_le (length sum + length bytes) LONGEST_VALUE)
    (sum_value table (sum ++ bytes) terms) (Err Long)) ≡ Ok total
    → Joins total sum (r >>= λ bytes. values_of table terms >>= λ more. Ok (bytes ++ more))
joins_step table sum total terms (Err fault) h is = absurd (cc)
joins_step table sum total terms (Ok ys) h is =
    elim (cases_Bool (nat_le (length sum + length ys) LONGEST_VALUE)) [
      | inl fits ↦
          let rest = h ys (rw fits at is) in
          let more = rest.1 in
          (ys ++ rest.0, rw more refl, rest.2 ∙ append_assoc sum ys rest.0)
      | inr long ↦ let no = rw long at is in absurd (cc)
    ]

joins : (table : Table) (sum total : List ℕ) (terms : List Term)
    → sum_value table sum terms ≡ Ok total → Joins total sum (values_of table terms)
joins table sum total [] is =
    ([], refl, let same : sum ≡ total = cc in sym same ∙ sym (append-nil sum))
joins table sum total (term ∷ terms) is =
    joins_step table sum total terms (term_value table term) (λ ys. joins table (sum
    ++ ys) total terms) is

-- a fault of the length is a fault of the value
fault_of_length : (r : Result (List ℕ) ExprFault) (fault : ExprFault) → length_of r ≡ Err fault
    → r ≡ Err fault
fault_of_length (Ok bytes) fault h = absurd (cc)
fault_of_length (Err f) fault h = let same : f ≡ fault = cc in ap (λ e. Err e) same

pub sum_fault : (table : Table) (terms : List Term) (fault : ExprFault)
    → sum_length table 0 terms ≡ Err fault → value_of terms table ≡ Err fault
sum_fault table terms fault h =
    fault_of_length (value_of terms table) fault (length-sum_value table [] terms ∙ h)

has_value : (r : Result (List ℕ) ExprFault) (len : ℕ) → length_of r ≡ Ok len
    → (bytes : List ℕ) × (r ≡ Ok bytes)
has_value (Ok bytes) len h = (bytes, refl)
has_value (Err fault) len h = absurd (cc)

-- where the length is known, there is a value
pub sum_is_ok : (table : Table) (terms : List Term) (len : ℕ) → sum_length table 0 terms ≡ Ok len
    → IsOk (value_of terms table)
sum_is_ok table terms len h =
    let there = (has_value (value_of terms table) len (length-sum_value table [] terms
    ∙ h)).1 in rw there refl

-- where the length is known, the value is what the terms have together
pub sum_joined : (table : Table) (terms : List Term) (len : ℕ) → sum_length table 0 terms ≡ Ok len
    → value_of terms table ≡ values_of table terms
sum_joined table terms len h =
    let v = has_value (value_of terms table) len (length-sum_value table [] terms ∙ h) in
    let j = joins table [] v.0 terms v.1 in
    v.1 ∙ ap (λ ys. Ok ys) j.2 ∙ sym j.1

-- what an error of what the terms have together says of the value, where there is one
pub joined_error : (fault : Option ExprFault) (value together : Result (List ℕ) ExprFault)
    → value ≡ together → IsOk value
    → IfSome fault (λ f. together ≡ Err f) → MatchOption fault (IsOk value) (λ f. value ≡ Err f)
joined_error None value together same ok h = ok
joined_error (Some f) value together same ok h = same ∙ h

-- ---- how long values are

short_step : (table : Table) (sum total : List ℕ) (terms : List Term)
    (r : Result (List ℕ) ExprFault)
    → ((ys : List ℕ) → length (sum ++ ys) ≤ LONGEST_VALUE
    → sum_value table (sum ++ ys) terms ≡ Ok total → length total ≤ LONGEST_VALUE)
    → (r >>= λ bytes. cond (nat_le (length sum + length bytes) LONGEST_VALUE)
    (sum_value table (sum ++ bytes) terms) (Err Long)) ≡ Ok total → length total ≤ LONGEST_VALUE
short_step table sum total terms (Err fault) h is = absurd (cc)
short_step table sum total terms (Ok ys) h is =
    elim (cases_Bool (nat_le (length sum + length ys) LONGEST_VALUE)) [
      | inl fits ↦ let low = leb-true (length sum + length ys) LONGEST_VALUE fits in
          h ys (omega (arith, length-append sum ys)) (rw fits at is)
      | inr long ↦ let no = rw long at is in absurd (cc)
    ]

sum_short : (table : Table) (sum total : List ℕ) (terms : List Term) → length sum ≤ LONGEST_VALUE
    → sum_value table sum terms ≡ Ok total → length total ≤ LONGEST_VALUE
sum_short table sum total [] low is =
    let same : sum ≡ total = cc in subst (λ xs. length xs ≤ LONGEST_VALUE) same low
sum_short table sum total (term ∷ terms) low is =
    short_step table sum total terms (term_value table term) (λ ys fits. sum_short table (sum
    ++ ys) total terms fits) is

-- no value is longer than the longest
pub short_if : {X : Type 0} (view : X
    → List ℕ) (r : Result X ExprError) (terms : List Term) (table : Table)
    → GivesFaultFirst expr_fault view r (value_of terms table)
    → IfOk r (λ x. length (view x) ≤ LONGEST_VALUE)
short_if view (Ok x) terms table h = sum_short table [] (view x) terms (omega arith) h
short_if view (Err error) terms table h = tt
