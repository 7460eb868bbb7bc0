-- The bytes between commas, one after another.
use Rattle.std.proofs.Common.{◌≡◌, ℕ, ◌+◌, ◌≤◌, ◌<◌, length, arith, Bool, true, false, List, [], ◌∷◌, ◌++◌, refl, sym, ap, ◌∙◌, subst, append_assoc, append-nil, ℤ, pos, negsuc}
use Rattle.std.specs.Prelude.{◌&&◌, Option, Some, None, option_map, option_and_then, MatchOption, IfSome, Result, Ok, Err, IsOk, if◌then◌else◌}
use Rattle.std.specs.List.{list_all, slice_split}
use Rattle.std.proofs.lemmas.List.Splits.{length-slice_split}
use Rattle.flk_base.specs.Checks.{◌>>=◌}
use Rattle.pal_asm.specs.declared.fault.AsmKind.{AsmKind}
use Rattle.pal_asm.specs.declared.fault.AsmKind.TheVariants as kind
use Rattle.pal_asm.specs.declared.names.Mnemonic.TheVariants as m
use Rattle.pal_asm.specs.declared.operand.Operand.{Operand}
use Rattle.pal_asm.specs.declared.operand.Operand.TheVariants.{Register, ByteRegister, Number, Label, Memory, Dword, Byte}
use Rattle.pal_asm.specs.declared.statement.ByteNumber.{ByteNumber}
use Rattle.pal_asm.specs.declared.statement.ByteNumber.TheVariants.{Within, Outside}
use Rattle.pal_asm.specs.Tokens.{Token, tokens, is_comma}
use Rattle.pal_asm.specs.Numbers.{low8}
use Rattle.pal_asm.specs.Operands.{operand_of, all_operands, is_within, is_in_range}
use Rattle.pal_asm.specs.Statements.{Statement, Bytes, numbers_of, byte_of}
use Rattle.pal_asm.specs.Assembling.{or_fault, statement_in}
use Rattle.pal_asm.specs.Seen.{signed_as, operand_as}
use Rattle.pal_asm.specs.SeenStatements.{pieces, number_byte, operand_byte}
use Rattle.pal_asm.proofs.ClampLemmas.{same_byte, exact_byte}
use Rattle.pal_asm.proofs.StatementLemmas.{both}
use denote.Ref.{Bor}

-- ---- one piece

number_same_by : (z : ℤ) (b : Bool) → is_within (negsuc 127) (pos 255) z ≡ b
    → number_byte (signed_as z) ≡ number_byte z
number_same_by z true h = ap number_byte (exact_byte z h)
number_same_by z false h =
    let other : is_within (negsuc 127) (pos 255) (signed_as z) ≡ false = same_byte z ∙ h in
    rw (other, h) refl

-- the byte of an operand as it is read is the operand's
pub same_operand_byte : (o : Operand) → operand_byte (operand_as o) ≡ operand_byte o
same_operand_byte (Number z) = ap Some (number_same_by z (is_within (negsuc 127) (pos 255) z) refl)
same_operand_byte _ = refl

byte_by : (x : Option Operand)
    → option_and_then operand_byte (option_map operand_as x) ≡ option_and_then operand_byte x
byte_by None = refl
byte_by (Some o) = same_operand_byte o

pub read_byte : (x : Option Operand) (o : Operand) → Some o ≡ option_map operand_as x
    → operand_byte o ≡ option_and_then operand_byte x
read_byte x o h = ap (option_and_then operand_byte) h ∙ byte_by x

pub no_byte : (x : Option Operand) → None ≡ option_map operand_as x
    → None ≡ option_and_then operand_byte x
no_byte x h = ap (option_and_then operand_byte) h ∙ byte_by x

-- ---- all pieces

abbrev step : (Bool → List ℕ → Result (List ℕ) AsmKind) → Bool → List ℕ → Option ByteNumber
    → Result (List ℕ) AsmKind
step next ok out byte =
    elim byte [
      | None ↦ Err kind.Operand
      | Some b ↦ elim b
          [ Within n ↦ next ok (out ++ n ∷ []) | Outside ↦ next false out ]
    ]

-- the bytes of pieces after those before, which were all in range or not
abbrev pub bytes_from : List (List Token) → Bool → List ℕ → Result (List ℕ) AsmKind
bytes_from [] ok out = if ok then Ok out else Err kind.Range
bytes_from (p ∷ ps) ok out =
    step (bytes_from ps) ok out (option_and_then operand_byte (operand_of p))

-- what is left of the pieces, and how much
abbrev pub rest_of : Option (Bor (List ℕ)) → List (List Token)
rest_of None = []
rest_of (Some text) = pieces text.now

abbrev pub left : Option (Bor (List ℕ)) → ℕ
left None = 0
left (Some text) = length text.now + 1

pub shorter : (after rest : Option (Bor (List ℕ))) (text : Bor (List ℕ)) → rest ≡ Some text
    → IfSome after (λ r. length r.now < length text.now) → left after < left rest
shorter None rest text e h = subst (λ r. 0 < left r) (sym e) (omega arith)
shorter (Some b) rest text e h = subst (λ r. length b.now + 1 < left r) (sym e) (omega arith)

pub cut_of : (after : Option (Bor (List ℕ))) (text p : List ℕ)
    → MatchOption after (pieces text ≡ tokens p ∷ []) (λ r. pieces text ≡ tokens p ∷ pieces r.now)
    → pieces text ≡ tokens p ∷ rest_of after
cut_of None text p h = h
cut_of (Some b) text p h = h

abbrev all_bytes : List Operand → Bool
all_bytes os = list_all (is_in_range (negsuc 127) (pos 255)) os

abbrev joined : Bool → List ℕ → List Operand → Option (List ℕ) → Result (List ℕ) AsmKind
joined ok out os numbers =
    or_fault kind.Operand numbers >>= λ ns. if ok && all_bytes os then Ok (out ++ ns)
    else Err kind.Range

abbrev counted : Bool → List ℕ → Option (List Operand) → Result (List ℕ) AsmKind
counted ok out o = or_fault kind.Operand o >>= λ os. joined ok out os (numbers_of os)

inside_by : (ok : Bool) (out : List ℕ) (z : ℤ) (os : List Operand) (ns : Option (List ℕ))
    → is_within (negsuc 127) (pos 255) z ≡ true
    → joined ok (out ++ low8 z ∷ []) os ns ≡ joined ok out (Number z ∷ os)
    (option_map (λ ys. low8 z ∷ ys) ns)
inside_by ok out z os None h = refl
inside_by ok out z os (Some ns) h = rw (h, append_assoc out (low8 z ∷ []) ns) refl

inside : (ok : Bool) (out : List ℕ) (z : ℤ) (rest : Option (List Operand))
    → is_within (negsuc 127) (pos 255) z ≡ true
    → counted ok (out ++ low8 z ∷ []) rest ≡ counted ok out (both (Some (Number z)) rest)
inside ok out z None h = refl
inside ok out z (Some os) h = inside_by ok out z os (numbers_of os) h

outside_by : (ok : Bool) (out : List ℕ) (z : ℤ) (os : List Operand) (ns : Option (List ℕ))
    → is_within (negsuc 127) (pos 255) z ≡ false
    → joined false out os ns ≡ joined ok out (Number z ∷ os) (option_map (λ ys. low8 z ∷ ys) ns)
outside_by ok out z os None h = refl
outside_by true out z os (Some ns) h = rw h refl
outside_by false out z os (Some ns) h = refl

outside : (ok : Bool) (out : List ℕ) (z : ℤ) (rest : Option (List Operand))
    → is_within (negsuc 127) (pos 255) z ≡ false
    → counted false out rest ≡ counted ok out (both (Some (Number z)) rest)
outside ok out z None h = refl
outside ok out z (Some os) h = outside_by ok out z os (numbers_of os) h

abbrev Counts : List (List Token) → Type 0
Counts ps = (ok : Bool) (out : List ℕ) → bytes_from ps ok out ≡ counted ok out (all_operands ps)

number_by : (ok : Bool) (out : List ℕ) (z : ℤ) (ps : List (List Token)) (b : Bool)
    → is_within (negsuc 127) (pos 255) z ≡ b → Counts ps
    → step (bytes_from ps) ok out (Some (number_byte z))
    ≡ counted ok out (both (Some (Number z)) (all_operands ps))
number_by ok out z ps true h ih =
    rw h (ih ok (out ++ low8 z ∷ []) ∙ inside ok out z (all_operands ps) h)
number_by ok out z ps false h ih = rw h (ih false out ∙ outside ok out z (all_operands ps) h)

other_by : (ok : Bool) (out : List ℕ) (o : Operand) (rest : Option (List Operand))
    → ((os : List Operand) → numbers_of (o ∷ os) ≡ None)
    → Err kind.Operand ≡ counted ok out (both (Some o) rest)
other_by ok out o None h = refl
other_by ok out o (Some os) h = sym (ap (joined ok out (o ∷ os)) (h os))

step_by : (ok : Bool) (out : List ℕ) (x : Option Operand) (ps : List (List Token)) → Counts ps
    → step (bytes_from ps) ok out (option_and_then operand_byte x)
    ≡ counted ok out (both x (all_operands ps))
step_by ok out None ps ih = refl
step_by ok out (Some (Number z)) ps ih =
    number_by ok out z ps (is_within (negsuc 127) (pos 255) z) refl ih
step_by ok out (Some (Register r)) ps ih =
    other_by ok out (Register r) (all_operands ps) (λ os. refl)
step_by ok out (Some (ByteRegister b)) ps ih =
    other_by ok out (ByteRegister b) (all_operands ps) (λ os. refl)
step_by ok out (Some (Label n)) ps ih = other_by ok out (Label n) (all_operands ps) (λ os. refl)
step_by ok out (Some (Memory p)) ps ih = other_by ok out (Memory p) (all_operands ps) (λ os. refl)
step_by ok out (Some (Dword p)) ps ih = other_by ok out (Dword p) (all_operands ps) (λ os. refl)
step_by ok out (Some (Byte p)) ps ih = other_by ok out (Byte p) (all_operands ps) (λ os. refl)

counts : (ps : List (List Token)) → Counts ps
counts [] true out = ap Ok (sym (append-nil out))
counts [] false out = refl
counts (p ∷ ps) ok out = step_by ok out (operand_of p) ps (counts ps)

abbrev pub as_statement : Result (List ℕ) AsmKind → Result (Option Statement) AsmKind
as_statement (Ok bytes) = Ok (Some (Bytes bytes))
as_statement (Err k) = Err k

-- what .byte makes of operands
abbrev byte_form : List Operand → Option Statement → Result (Option Statement) AsmKind
byte_form os form =
    or_fault kind.Operand form >>= λ s. if all_bytes os then Ok (Some s) else Err kind.Range

abbrev byte_operands : Option (List Operand) → Result (Option Statement) AsmKind
byte_operands o = or_fault kind.Operand o >>= λ os. byte_form os (byte_of os)

choice : (b : Bool) (ns : List ℕ)
    → ◌≡◌ {A = Result (Option Statement) AsmKind}
    (if b then Ok (Some (Bytes ns)) else Err kind.Range)
    (as_statement (if true && b then Ok ([] ++ ns) else Err kind.Range))
choice true ns = refl
choice false ns = refl

form_by : (os : List Operand) (ns : Option (List ℕ))
    → byte_form os (option_map Bytes ns) ≡ as_statement (joined true [] os ns)
form_by os None = refl
form_by os (Some ns) = choice (all_bytes os) ns

some_by : (x : Option Operand) (rest : Option (List Operand))
    → byte_operands (both x rest) ≡ as_statement (counted true [] (both x rest))
some_by None rest = refl
some_by (Some o) None = refl
some_by (Some o) (Some os) = form_by (o ∷ os) (numbers_of (o ∷ os))

pieces_by : (ps : List (List Token)) → 1 ≤ length ps
    → byte_operands (all_operands ps) ≡ as_statement (bytes_from ps true [])
pieces_by [] h = absurd (omega arith)
pieces_by (p ∷ ps) h = some_by (operand_of p) (all_operands ps)
    ∙ ap as_statement (sym (counts (p ∷ ps) true []))

-- .byte has the bytes of its pieces
pub byte_statement : (ts : List Token)
    → statement_in (Some (m.Byte, ts)) ≡ as_statement (bytes_from (slice_split is_comma ts) true [])
byte_statement [] = refl
byte_statement (t ∷ ts) =
    pieces_by (slice_split is_comma (t ∷ ts)) (omega (arith, length-slice_split is_comma (t ∷ ts)))

-- a piece that is a number
step_from : (text : List ℕ) (ok : Bool) (out : List ℕ) (rest after : Option (Bor (List ℕ)))
    (t : Bor (List ℕ)) (p : List ℕ) (byte : ByteNumber)
    → bytes_from (rest_of rest) ok out ≡ bytes_from (pieces text) true [] → rest ≡ Some t
    → MatchOption after (pieces t.now ≡ tokens p ∷ []) (λ r. pieces t.now ≡ tokens p ∷ pieces r.now)
    → Some byte ≡ option_and_then operand_byte (operand_of (tokens p))
    → step (bytes_from (rest_of after)) ok out (Some byte) ≡ bytes_from (pieces text) true []
step_from text ok out rest after t p byte h e m n =
    ap (step (bytes_from (rest_of after)) ok out) n
    ∙ sym (ap (λ r. bytes_from (rest_of r) ok out) e
    ∙ ap (λ ps. bytes_from ps ok out) (cut_of after t.now p m)) ∙ h

-- the bytes so far are those kept, where there was room
abbrev pub Kept : List ℕ → Bool → List ℕ → Type 0
Kept out room bytes = room ≡ true → out ≡ bytes

pub one_within : (text : List ℕ) (ok : Bool) (out old new : List ℕ) (was is : Bool)
    (rest after : Option (Bor (List ℕ))) (t : Bor (List ℕ)) (p : List ℕ)
    (number : ByteNumber) (n : ℕ)
    → bytes_from (rest_of rest) ok out ≡ bytes_from (pieces text) true [] → Kept out was old
    → rest ≡ Some t
    → MatchOption after (pieces t.now ≡ tokens p ∷ []) (λ r. pieces t.now ≡ tokens p ∷ pieces r.now)
    → Some number ≡ option_and_then operand_byte (operand_of (tokens p))
    → number ≡ Within n → (is ≡ true → (was ≡ true) × (new ≡ old ++ n ∷ []))
    → (out' : List ℕ) × (bytes_from (rest_of after) ok out' ≡ bytes_from (pieces text) true [])
    × Kept out' is new
one_within text ok out old new was is rest after t p number n h k e m f w g = (
  out ++ n ∷ [],
  step_from text ok out rest after t p (Within n) h e m (ap Some (sym w)
      ∙ f),
  λ r. ap (λ xs. xs ++ n ∷ []) (k (g r).0) ∙ sym (g r).1,
)

-- a piece that is no number
pub failed : (text : List ℕ) (ok : Bool) (out : List ℕ) (rest after : Option (Bor (List ℕ)))
    (t : Bor (List ℕ)) (p : List ℕ)
    → bytes_from (rest_of rest) ok out ≡ bytes_from (pieces text) true [] → rest ≡ Some t
    → MatchOption after (pieces t.now ≡ tokens p ∷ []) (λ r. pieces t.now ≡ tokens p ∷ pieces r.now)
    → None ≡ option_and_then operand_byte (operand_of (tokens p))
    → statement_in (Some (m.Byte, tokens text)) ≡ Err kind.Operand
failed text ok out rest after t p h e m n =
    let here : bytes_from (rest_of rest) ok out ≡ Err kind.Operand =
    ap (λ r. bytes_from (rest_of r) ok out) e
    ∙ ap (λ ps. bytes_from ps ok out) (cut_of after t.now p m)
    ∙ sym (ap (step (bytes_from (rest_of after)) ok out) n) in
    byte_statement (tokens text) ∙ ap as_statement (sym h ∙ here)

done : (text : List ℕ) (ok : Bool) (out : List ℕ) (rest : Option (Bor (List ℕ)))
    → bytes_from (rest_of rest) ok out ≡ bytes_from (pieces text) true [] → rest ≡ None
    → statement_in (Some (m.Byte, tokens text))
    ≡ as_statement (if ok then Ok out else Err kind.Range)
done text ok out rest h e =
    byte_statement (tokens text)
    ∙ ap as_statement (sym h ∙ ap (λ r. bytes_from (rest_of r) ok out) e)

pub done_in_range : (text : List ℕ) (ok : Bool) (out : List ℕ) (rest : Option (Bor (List ℕ)))
    → bytes_from (rest_of rest) ok out ≡ bytes_from (pieces text) true [] → rest ≡ None → ok ≡ true
    → statement_in (Some (m.Byte, tokens text)) ≡ Ok (Some (Bytes out))
done_in_range text ok out rest h e b =
    done text ok out rest h e ∙ ap (λ x. as_statement (if x then Ok out else Err kind.Range)) b

pub done_kept : (text : List ℕ) (ok : Bool) (out bytes : List ℕ) (room : Bool)
    (rest : Option (Bor (List ℕ)))
    → bytes_from (rest_of rest) ok out ≡ bytes_from (pieces text) true [] → Kept out room bytes
    → rest ≡ None → ok ≡ true → room ≡ true
    → statement_in (Some (m.Byte, tokens text)) ≡ Ok (Some (Bytes bytes))
done_kept text ok out bytes room rest h k e b r =
    done_in_range text ok out rest h e b ∙ ap (λ xs. Ok (Some (Bytes xs))) (k r)

pub done_lost : (text : List ℕ) (ok : Bool) (out : List ℕ) (rest : Option (Bor (List ℕ)))
    → bytes_from (rest_of rest) ok out ≡ bytes_from (pieces text) true [] → rest ≡ None → ok ≡ true
    → IsOk (statement_in (Some (m.Byte, tokens text)))
done_lost text ok out rest h e b = rw (done_in_range text ok out rest h e b) refl

pub done_outside : (text : List ℕ) (ok : Bool) (out : List ℕ) (rest : Option (Bor (List ℕ)))
    → bytes_from (rest_of rest) ok out ≡ bytes_from (pieces text) true [] → rest ≡ None → ok ≡ false
    → statement_in (Some (m.Byte, tokens text)) ≡ Err kind.Range
done_outside text ok out rest h e b =
    done text ok out rest h e ∙ ap (λ x. as_statement (if x then Ok out else Err kind.Range)) b
