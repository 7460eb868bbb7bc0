-- A statement by its operands as the code reads them.
use Rattle.std.proofs.Common.{◌≡◌, ◌≢◌, ℕ, ◌+◌, ◌<◌, true, false, List, [], ◌∷◌, length, map, refl, sym, ap, ◌∙◌, subst, arith}
use Rattle.std.specs.Prelude.{Option, Some, None, option_map, option_and_then, is_some, MatchOption, Result, Ok, Err, if◌then◌else◌}
use Rattle.std.specs.List.{list_all, slice_split}
use Rattle.std.proofs.lemmas.List.Splits.{length-slice_split}
use Rattle.flk_base.specs.Checks.{◌>>=◌}
use Rattle.pal_asm.specs.declared.fault.AsmKind.{AsmKind}
use Rattle.pal_asm.specs.declared.fault.AsmKind.TheVariants as kind
use Rattle.pal_asm.specs.declared.names.Mnemonic.{Mnemonic}
use Rattle.pal_asm.specs.declared.names.Mnemonic.TheVariants as m
use Rattle.pal_asm.specs.declared.operand.Operand.{Operand}
use Rattle.pal_asm.specs.Tokens.{Token, is_comma}
use Rattle.pal_asm.specs.Operands.{operand_of, all_operands, operands_of, is_in_range}
use Rattle.pal_asm.specs.Statements.{Statement, statement_of, least_number, most_number}
use Rattle.pal_asm.specs.Assembling.{or_fault, statement_in}
use Rattle.pal_asm.specs.Seen.{operand_as}
use Rattle.pal_asm.specs.SeenStatements.{AreMore}
use Rattle.pal_asm.proofs.FormLemmas.{of_statement}
use Rattle.pal_asm.proofs.ClampLemmas.{same_ranges, same_operands}

-- ---- how many operands there are

-- an operand and more
abbrev pub both : Option Operand → Option (List Operand) → Option (List Operand)
both x rest = option_and_then (λ o. option_map (λ os. o ∷ os) rest) x

length_by : (x : Option Operand) (rest : Option (List Operand)) (n : ℕ) (os : List Operand)
    → ((more : List Operand) → rest ≡ Some more → length more ≡ n)
    → both x rest ≡ Some os → length os ≡ n + 1
length_by None rest n os ih h = cc
length_by (Some x) None n os ih h = cc
length_by (Some x) (Some more) n os ih h =
    let same : os ≡ x ∷ more = cc in
    let less : length more ≡ n = ih more refl in
    ap length same ∙ omega arith

operands_length : (ps : List (List Token)) (os : List Operand) → all_operands ps ≡ Some os
    → length os ≡ length ps
operands_length [] os h = let same : os ≡ [] = cc in ap length same
operands_length (p ∷ ps) os h =
    length_by (operand_of p) (all_operands ps) (length ps) os (operands_length ps) h ∙ omega arith

more_by : (n : ℕ) (o : Option (List Operand))
    → ((os : List Operand) → o ≡ Some os → n < length os) → AreMore n o
more_by n None h = tt
more_by n (Some os) h = h os refl

-- a comma, so no one operand
pub not_alone : (all : List (List Token)) (p ts : List Token) → all ≡ p ∷ slice_split is_comma ts
    → AreMore 1 (all_operands all)
not_alone all p ts e =
    more_by 1 (all_operands all)
    (λ os h. let n : length os ≡ length all = operands_length all os h in
    omega (arith, ap length e, length-slice_split is_comma ts))

abbrev Reads : ℕ → Option (List Operand) → Option (List Operand) → Type 0
Reads n read all =
    MatchOption read (AreMore n all) (λ os. option_map (map operand_as) all ≡ Some os)

alone_by : (n : ℕ) (x : Option Operand)
    → Reads n (option_map (λ o. o ∷ []) (option_map operand_as x)) (both x (Some []))
alone_by n None = tt
alone_by n (Some x) = refl

pub alone_none : (n : ℕ) (all : List (List Token)) (p : List Token) → all ≡ p ∷ []
    → None ≡ option_map operand_as (operand_of p) → AreMore n (all_operands all)
alone_none n all p e h =
    let f = λ (x : Option Operand) (k : None ≡ option_map operand_as x).
    subst (λ r. Reads n (option_map (λ o. o ∷ []) r) (both x (Some []))) (sym k)
    (alone_by n x) in
    subst (λ ps. AreMore n (all_operands ps)) (sym e) (f (operand_of p) h)

pub alone_some : (all : List (List Token)) (p : List Token) (o : Operand) → all ≡ p ∷ []
    → Some o ≡ option_map operand_as (operand_of p)
    → option_map (map operand_as) (all_operands all) ≡ Some (o ∷ [])
alone_some all p o e h =
    let f = λ (x : Option Operand) (k : Some o ≡ option_map operand_as x).
    subst (λ r. Reads 0 (option_map (λ o. o ∷ []) r) (both x (Some []))) (sym k)
    (alone_by 0 x) in
    subst (λ ps. option_map (map operand_as) (all_operands ps) ≡ Some (o ∷ [])) (sym e)
    (f (operand_of p) h)

-- no comma, so one operand or none
pub alone : (all : List (List Token)) (p : List Token) (read : Option Operand) → all ≡ p ∷ []
    → read ≡ option_map operand_as (operand_of p)
    → MatchOption read (AreMore 1 (all_operands all))
    (λ o. option_map (map operand_as) (all_operands all) ≡ Some (o ∷ []))
alone all p None e h = alone_none 1 all p e h
alone all p (Some o) e h = alone_some all p o e h

none_by : (n : ℕ) (x : Option Operand) (rest : Option (List Operand))
    → None ≡ option_map operand_as x → AreMore n (both x rest)
none_by n None rest h = tt
none_by n (Some x) rest h = cc

-- the first is none
pub first_none : (n : ℕ) (all rest : List (List Token)) (p : List Token) → all ≡ p ∷ rest
    → None ≡ option_map operand_as (operand_of p) → AreMore n (all_operands all)
first_none n all rest p e h =
    subst (λ ps. AreMore n (all_operands ps)) (sym e)
    (none_by n (operand_of p) (all_operands rest) h)

later_by : (x : Option Operand) (rest : Option (List Operand)) → AreMore 1 rest
    → AreMore 2 (both x rest)
later_by None rest h = tt
later_by (Some x) None h = tt
later_by (Some x) (Some os) h = omega arith

-- what follows the first is not one operand
pub later_none : (all rest : List (List Token)) (p : List Token) → all ≡ p ∷ rest
    → AreMore 1 (all_operands rest) → AreMore 2 (all_operands all)
later_none all rest p e h =
    subst (λ ps. AreMore 2 (all_operands ps)) (sym e)
    (later_by (operand_of p) (all_operands rest) h)

two_by : (x : Option Operand) (rest : Option (List Operand)) (a : Operand) (os : List Operand)
    → Some a ≡ option_map operand_as x → option_map (map operand_as) rest ≡ Some os
    → option_map (map operand_as) (both x rest) ≡ Some (a ∷ os)
two_by None rest a os h k = cc
two_by (Some x) None a os h k = cc
two_by (Some x) (Some more) a os h k =
    let first : operand_as x ≡ a = cc in
    let others : map operand_as more ≡ os = cc in
    rw (first, others) refl

-- one operand and more
pub first_some : (all rest : List (List Token)) (p : List Token) (a : Operand) (os : List Operand)
    → all ≡ p ∷ rest → Some a ≡ option_map operand_as (operand_of p)
    → option_map (map operand_as) (all_operands rest) ≡ Some os
    → option_map (map operand_as) (all_operands all) ≡ Some (a ∷ os)
first_some all rest p a os e h k =
    subst (λ ps. option_map (map operand_as) (all_operands ps) ≡ Some (a ∷ os)) (sym e)
    (two_by (operand_of p) (all_operands rest) a os h k)

-- where there are tokens, the operands are those between commas
pub between : (ts : List Token) → ts ≢ [] → operands_of ts ≡ all_operands (slice_split is_comma ts)
between [] h = absurd (h refl)
between (t ∷ ts) h = refl

-- ---- a statement of a word that takes at most two operands

abbrev by_form : Mnemonic → List Operand → Option Statement → Result (Option Statement) AsmKind
by_form mnemonic os form =
    or_fault kind.Operand form >>= λ s. if list_all
    (is_in_range (least_number mnemonic) (most_number mnemonic)) os then Ok (Some s)
    else Err kind.Range

abbrev by_operands : Mnemonic → Option (List Operand) → Result (Option Statement) AsmKind
by_operands mnemonic o =
    or_fault kind.Operand o >>= λ os. by_form mnemonic os (statement_of mnemonic os)

none_of : {A : Type 0} (o : Option A) → is_some o ≡ false → o ≡ None
none_of None h = refl
none_of (Some x) h = cc

no_operands_by : (mnemonic : Mnemonic) (o : Option (List Operand)) → mnemonic ≢ m.Byte → AreMore 2 o
    → by_operands mnemonic o ≡ Err kind.Operand
no_operands_by mnemonic None n h = refl
no_operands_by mnemonic (Some os) n h = ap (by_form mnemonic os) ((of_statement mnemonic os n).1 h)

-- no operands, or more than two
pub no_operands : (mnemonic : Mnemonic) (ts : List Token) → mnemonic ≢ m.Byte
    → AreMore 2 (operands_of ts) → statement_in (Some (mnemonic, ts)) ≡ Err kind.Operand
no_operands mnemonic ts n h = no_operands_by mnemonic (operands_of ts) n h

no_form_by : (mnemonic : Mnemonic) (o : Option (List Operand)) (read : List Operand)
    → mnemonic ≢ m.Byte → option_map (map operand_as) o ≡ Some read
    → statement_of mnemonic read ≡ None → by_operands mnemonic o ≡ Err kind.Operand
no_form_by mnemonic None read n e h = cc
no_form_by mnemonic (Some os) read n e h =
    let same : map operand_as os ≡ read = cc in
    let none : is_some (statement_of mnemonic (map operand_as os)) ≡ false =
    rw same (ap is_some h) in
    ap (by_form mnemonic os) (none_of (statement_of mnemonic os) (sym (of_statement mnemonic os n).0
    ∙ none))

-- the operands do not fit the statement
pub no_form : (mnemonic : Mnemonic) (ts : List Token) (read : List Operand) → mnemonic ≢ m.Byte
    → option_map (map operand_as) (operands_of ts) ≡ Some read
    → None ≡ statement_of mnemonic read → statement_in (Some (mnemonic, ts)) ≡ Err kind.Operand
no_form mnemonic ts read n e h = no_form_by mnemonic (operands_of ts) read n e (sym h)

formed_by : (mnemonic : Mnemonic) (o : Option (List Operand)) (read : List Operand) (s : Statement)
    → option_map (map operand_as) o ≡ Some read
    → Some s ≡ statement_of mnemonic read
    → list_all (is_in_range (least_number mnemonic) (most_number mnemonic)) read ≡ true
    → by_operands mnemonic o ≡ Ok (Some s)
formed_by mnemonic None read s e h k = cc
formed_by mnemonic (Some os) read s e h k =
    let same : map operand_as os ≡ read = cc in
    let inside : list_all (is_in_range (least_number mnemonic) (most_number mnemonic)) os ≡ true =
    sym (same_ranges mnemonic os)
    ∙ ap (list_all (is_in_range (least_number mnemonic) (most_number mnemonic))) same ∙ k in
    let exact : os ≡ read = sym (same_operands mnemonic os inside) ∙ same in
    let form : statement_of mnemonic os ≡ Some s = ap (statement_of mnemonic) exact ∙ sym h in
    ap (by_form mnemonic os) form ∙ rw inside refl

-- the statement
pub formed : (mnemonic : Mnemonic) (ts : List Token) (read : List Operand) (s : Statement)
    → option_map (map operand_as) (operands_of ts) ≡ Some read
    → Some s ≡ statement_of mnemonic read
    → list_all (is_in_range (least_number mnemonic) (most_number mnemonic)) read ≡ true
    → statement_in (Some (mnemonic, ts)) ≡ Ok (Some s)
formed mnemonic ts read s e h k = formed_by mnemonic (operands_of ts) read s e h k

some_by : (mnemonic : Mnemonic) (os : List Operand) (form : Option Statement) → is_some form ≡ true
    → list_all (is_in_range (least_number mnemonic) (most_number mnemonic)) os ≡ false
    → by_form mnemonic os form ≡ Err kind.Range
some_by mnemonic os None h k = cc
some_by mnemonic os (Some s) h k = rw k refl

outside_by : (mnemonic : Mnemonic) (o : Option (List Operand)) (read : List Operand) (s : Statement)
    → mnemonic ≢ m.Byte → option_map (map operand_as) o ≡ Some read
    → Some s ≡ statement_of mnemonic read
    → list_all (is_in_range (least_number mnemonic) (most_number mnemonic)) read ≡ false
    → by_operands mnemonic o ≡ Err kind.Range
outside_by mnemonic None read s n e h k = cc
outside_by mnemonic (Some os) read s n e h k =
    let same : map operand_as os ≡ read = cc in
    let outside : list_all (is_in_range (least_number mnemonic) (most_number mnemonic)) os ≡ false =
    sym (same_ranges mnemonic os)
    ∙ ap (list_all (is_in_range (least_number mnemonic) (most_number mnemonic))) same ∙ k in
    let form : is_some (statement_of mnemonic os) ≡ true =
    sym (of_statement mnemonic os n).0 ∙ ap (λ xs. is_some (statement_of mnemonic xs)) same
    ∙ ap is_some (sym h) in
    some_by mnemonic os (statement_of mnemonic os) form outside

-- a number outside its range
pub outside : (mnemonic : Mnemonic) (ts : List Token) (read : List Operand) (s : Statement)
    → mnemonic ≢ m.Byte → option_map (map operand_as) (operands_of ts) ≡ Some read
    → Some s ≡ statement_of mnemonic read
    → list_all (is_in_range (least_number mnemonic) (most_number mnemonic)) read ≡ false
    → statement_in (Some (mnemonic, ts)) ≡ Err kind.Range
outside mnemonic ts read s n e h k = outside_by mnemonic (operands_of ts) read s n e h k
