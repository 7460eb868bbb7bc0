-- A line by its steps, and a text by its lines.
use Rattle.std.proofs.Common.{◌≡◌, ◌≢◌, Bool, refl, ℕ, ◌+◌, ◌^◌, ◌<◌, ◌≤◌, true, false, List, [], ◌∷◌, length, sym, ap, ◌∙◌, subst, arith}
use Rattle.std.specs.Prelude.{Option, Some, None, Result, Ok, Err, MatchOption, MatchResult, IfOk, IfErr, IsOk}
use Rattle.flk_base.specs.Buffer.{Buffer}
use Rattle.flk_base.specs.Checks.{◌>>=◌}
use Rattle.pal_asm.specs.declared.fault.AsmError.{AsmError}
use Rattle.pal_asm.specs.declared.fault.AsmFault.{AsmFault}
use Rattle.pal_asm.specs.declared.fault.AsmKind.{AsmKind}
use Rattle.pal_asm.specs.declared.fault.AsmKind.TheVariants as kind
use Rattle.pal_asm.specs.declared.fault.LineFault.{LineFault}
use Rattle.pal_asm.specs.declared.fault.LineFault.TheVariants as fault
use Rattle.pal_asm.specs.declared.name.Name.{Name}
use Rattle.pal_asm.specs.declared.names.Mnemonic.{Mnemonic}
use Rattle.pal_asm.specs.Tokens.{Token, tokens}
use Rattle.pal_asm.specs.Statements.{Statement}
use Rattle.pal_asm.specs.Lines.{lines, content, without_comment}
use Rattle.pal_asm.specs.Assembling.{most_end, Line, Draft, AreBlank, line_alone, or_others, first_tokens, unless, is_defined, sized_line, label_in, word_in, statement_in, line_in, with_line, at_line, line_tokens, draft_of}
use Rattle.pal_asm.specs.Seen.{Refuses, RefusesLine, RefusesAlone}
use Rattle.pal_asm.proofs.DraftLemmas.{fits}
use denote.Ref.{Bor}

-- ---- the steps of a line

abbrev after_word : Draft → Option Name → Option (Mnemonic × List Token) → Result Line AsmKind
after_word before label word =
    unless (is_defined before.labels label) kind.Twice label >>= λ name. statement_in word >>=
    λ statement. sized_line before name statement

abbrev after_label : Draft → Option Name × List Token → Result Line AsmKind
after_label before label = word_in label.1 >>= λ word. after_word before label.0 word

-- a line without its CR and its comment has the line's tokens
pub same_tokens : (line text whole : List ℕ) → whole ≡ content line → text ≡ without_comment whole
    → line_tokens line ≡ tokens text
same_tokens line text whole ew et = sym (ap tokens (et ∙ ap without_comment ew))

at_label : (before : Draft) (text : List ℕ) (answer : Result (Option Name × List Token) AsmKind)
    → label_in (tokens text) ≡ answer
    → line_in before (tokens text) ≡ (answer >>= after_label before)
at_label before text answer el = ap (λ r. r >>= after_label before) el

-- the statement decides
pub at_statement : (before : Draft) (text : List ℕ) (label : Option Name × List Token)
    (word : Option (Mnemonic × List Token))
    → label_in (tokens text) ≡ Ok label → word_in label.1 ≡ Ok word
    → is_defined before.labels label.0 ≡ false
    → line_in before (tokens text) ≡ (statement_in word >>= λ statement. sized_line before
    label.0 statement)
at_statement before text label word el e d =
    at_label before text (Ok label) el ∙ ap (λ r. r >>= after_word before label.0) e
    ∙ ap (λ b. unless b kind.Twice label.0 >>= λ name. statement_in word >>= λ statement. sized_line
    before name statement) d

-- a fault stays one
pub refused_first : {A B : Type 0} (f : LineFault) (first : Result A AsmKind) (next : A
    → Result B AsmKind) (whole : Result B AsmKind) → whole ≡ (first >>= next) → RefusesLine f first
    → RefusesLine f whole
refused_first (fault.Kind k) first next whole e h = e ∙ ap (λ r. r >>= next) h
refused_first fault.NoMemory first next whole e h = tt

-- ---- what is wrong with a line by itself

-- out of memory says nothing of a line after others
pub of_line : {A : Type 0} (f : LineFault) (answer : Result A AsmKind) → RefusesAlone f answer
    → RefusesLine f answer
of_line (fault.Kind k) answer h = h
of_line fault.NoMemory answer h = tt

pub alone_is : (text : List ℕ) (label : Option Name × List Token)
    (word : Option (Mnemonic × List Token))
    → label_in (tokens text) ≡ Ok label → word_in label.1 ≡ Ok word
    → line_alone (tokens text) ≡ statement_in word
alone_is text label word el ew =
    ap (λ r. r >>= λ l. word_in l.1 >>= λ w. statement_in w) el
    ∙ ap (λ r. r >>= λ w. statement_in w) ew

pub memory_ran_out : (f : LineFault) (answer : Result (Option Statement) AsmKind)
    → RefusesAlone f answer → f ≡ fault.NoMemory → IsOk answer
memory_ran_out (fault.Kind k) answer h e = cc
memory_ran_out fault.NoMemory answer h e = h

pub if_memory_ran_out : {T : Type 0} (r : Result T LineFault) (P : Type 0) → P
    → IfErr r (λ f. f ≡ fault.NoMemory → P)
if_memory_ran_out (Ok x) P p = tt
if_memory_ran_out (Err f) P p = λ e. p

good_statement : (n : ℕ) (before : Draft) (name : Option Name) (twice : Bool)
    (answer : Result (Option Statement) AsmKind) (l : Line)
    → at_line n (unless twice kind.Twice name >>= λ label. answer >>= λ statement. sized_line before
    label statement) ≡ Ok l → IsOk answer
good_statement n before name true answer l e = cc
good_statement n before name false (Err k) l e = cc
good_statement n before name false (Ok s) l e = refl

good_word : (n : ℕ) (before : Draft) (name : Option Name)
    (answer : Result (Option (Mnemonic × List Token)) AsmKind) (l : Line)
    → at_line n (answer >>= λ word. after_word before name word) ≡ Ok l
    → IsOk (answer >>= λ word. statement_in word)
good_word n before name (Err k) l e = cc
good_word n before name (Ok word) l e =
    good_statement n before name (is_defined before.labels name) (statement_in word) l e

good_label : (n : ℕ) (before : Draft) (answer : Result (Option Name × List Token)
    AsmKind) (l : Line)
    → at_line n (answer >>= after_label before) ≡ Ok l
    → IsOk (answer >>= λ label. word_in label.1 >>= λ word. statement_in word)
good_label n before (Err k) l e = cc
good_label n before (Ok label) l e = good_word n before label.0 (word_in label.1) l e

-- a line without a fault has none by itself
good_line : (n : ℕ) (before : Draft) (ts : List Token) (l : Line)
    → at_line n (line_in before ts) ≡ Ok l → IsOk (line_alone ts)
good_line n before ts l e = good_label n before (label_in ts) l e

-- nothing is wrong with the first line that is not blank, or there is none
abbrev pub BeginsWell : List (List ℕ) → Type 0
BeginsWell ls = IsOk (line_alone (first_tokens ls))

well_by : (ts others : List Token) (W : Type 0) → (IsOk (line_alone (or_others ts others)) → W)
    → (ts ≢ [] → IsOk (line_alone ts)) → IsOk (line_alone others) → W
well_by [] others W h k o = h o
well_by (t ∷ ts) others W h k o = h (k (λ e. cc))

begins_by : (ts others : List Token) (W : Type 0) → (IsOk (line_alone (or_others ts others)) → W)
    → ts ≢ [] → IsOk (line_alone ts) → W
begins_by [] others W h k o = absurd (k refl)
begins_by (t ∷ ts) others W h k o = h o

-- ---- lines with nothing on them

abbrev nothing : Line
nothing = record { label = None; statement = None }

pub nothing_added : (n : ℕ) (before : Draft) (line : List ℕ) → line_tokens line ≡ []
    → before.end ≤ most_end → at_line n (line_in before (line_tokens line)) ≡ Ok nothing
nothing_added n before line e h =
    ap (λ ts. at_line n (line_in before ts)) e
    ∙ ap (at_line n) (fits before None None (omega arith))

-- blank lines place no statement
pub none_placed : (n : ℕ) (before all : Draft) (ls : List (List ℕ)) → before.end ≤ most_end
    → AreBlank ls → draft_of n before ls ≡ Ok all → all.placed ≡ before.placed
none_placed n before all [] h b e = let same : before ≡ all = cc in ap (λ d. d.placed) (sym same)
none_placed n before all (line ∷ rest) h b e =
    let first : draft_of n before (line ∷ rest)
    ≡ draft_of (n + 1) (with_line n before nothing) rest =
    ap (λ r. r >>= λ l. draft_of (n + 1) (with_line n before l) rest)
    (nothing_added n before line b.0 h) in
    none_placed (n + 1) (with_line n before nothing) all rest (omega (arith, h)) b.1 (sym first ∙ e)

-- what is left of lines
abbrev pub lines_left : Option (Bor (List ℕ)) → List (List ℕ)
lines_left None = []
lines_left (Some text) = lines text.now

cut_at : (after : Option (Bor (List ℕ))) (text line : List ℕ)
    → MatchOption after (lines text ≡ line ∷ []) (λ r. lines text ≡ line ∷ lines r.now)
    → lines text ≡ line ∷ lines_left after
cut_at None text line m = m
cut_at (Some r) text line m = m

-- the first line that is not blank is among those left, or has been read
pub still_well : (n : ℕ) (before : Draft) (rest after : Option (Bor (List ℕ))) (text : Bor (List ℕ))
    (line : List ℕ) (l : Line) (W : Type 0) → rest ≡ Some text
    → MatchOption after (lines text.now ≡ line ∷ []) (λ r. lines text.now ≡ line ∷ lines r.now)
    → at_line n (line_in before (line_tokens line)) ≡ Ok l
    → (BeginsWell (lines_left rest) → W) → BeginsWell (lines_left after) → W
still_well n before rest after text line l W e m a h b =
    let cut : lines_left rest ≡ line ∷ lines_left after =
    ap lines_left e ∙ cut_at after text.now line m in
    well_by (line_tokens line) (first_tokens (lines_left after)) W (subst (λ ls. BeginsWell ls
    → W) cut h) (λ t. good_line n before (line_tokens line) l a) b

-- what is wrong with the line that is read now
pub begins_here : (rest after : Option (Bor (List ℕ))) (text : Bor (List ℕ)) (line : List ℕ)
    (W : Type 0) → rest ≡ Some text
    → MatchOption after (lines text.now ≡ line ∷ []) (λ r. lines text.now ≡ line ∷ lines r.now)
    → (BeginsWell (lines_left rest) → W) → line_tokens line ≢ []
    → IsOk (line_alone (line_tokens line)) → W
begins_here rest after text line W e m h k o =
    let cut : lines_left rest ≡ line ∷ lines_left after =
    ap lines_left e ∙ cut_at after text.now line m in
    begins_by (line_tokens line) (first_tokens (lines_left after)) W (subst (λ ls. BeginsWell ls
    → W) cut h) k o

pub blank_first : (rest after : Option (Bor (List ℕ))) (text : Bor (List ℕ)) (line : List ℕ)
    → rest ≡ Some text
    → MatchOption after (lines text.now ≡ line ∷ []) (λ r. lines text.now ≡ line ∷ lines r.now)
    → AreBlank (lines_left rest) → (line_tokens line ≡ []) × AreBlank (lines_left after)
blank_first rest None text line e m b = subst AreBlank (ap lines_left e ∙ m) b
blank_first rest (Some r) text line e m b = subst AreBlank (ap lines_left e ∙ m) b

-- ---- the lines of a text

-- what is left of the text gives this after lines before
abbrev pub continued : ℕ → Draft → Option (Bor (List ℕ)) → Result Draft AsmFault
continued n before None = Ok before
continued n before (Some text) = draft_of n before (lines text.now)

-- every line that has something on it has a number below 2 ^ 32
abbrev pub IsNumbered : ℕ → Option (Bor (List ℕ)) → Type 0
IsNumbered n None = Unit {0}
IsNumbered n (Some text) = n + length text.now ≤ 2 ^ 32

abbrev pub left : Option (Bor (List ℕ)) → ℕ
left None = 0
left (Some text) = length text.now + 1

step : (n : ℕ) (before : Draft) (text line : List ℕ) (after : Option (Bor (List ℕ)))
    → MatchOption after (lines text ≡ line ∷ []) (λ rest. lines text ≡ line ∷ lines rest.now)
    → draft_of n before (lines text) ≡ (at_line n (line_in before (line_tokens line)) >>= λ l.
    continued (n + 1) (with_line n before l) after)
step n before text line None h = ap (draft_of n before) h
step n before text line (Some rest) h = ap (draft_of n before) h

-- one more line
pub more_lines : (n : ℕ) (before : Draft) (rest after : Option (Bor (List ℕ))) (text : Bor (List ℕ))
    (line : List ℕ) (l : Line) (whole : Result Draft AsmFault)
    → continued n before rest ≡ whole → rest ≡ Some text
    → MatchOption after (lines text.now ≡ line ∷ []) (λ r. lines text.now ≡ line ∷ lines r.now)
    → at_line n (line_in before (line_tokens line)) ≡ Ok l
    → continued (n + 1) (with_line n before l) after ≡ whole
more_lines n before rest after text line l whole h e m k =
    sym (step n before text.now line after m
    ∙ ap (λ r. r >>= λ x. continued (n + 1) (with_line n before x) after) k)
    ∙ sym (ap (continued n before) e) ∙ h

pub next_number : (n : ℕ) (rest after : Option (Bor (List ℕ))) (text : Bor (List ℕ)) (line : List ℕ)
    → IsNumbered n rest → rest ≡ Some text
    → MatchOption after (length line ≡ length text.now)
    (λ r. length line + length r.now < length text.now) → IsNumbered (n + 1) after
next_number n rest None text line h e m = tt
next_number n rest (Some r) text line h e m =
    let here : n + length text.now ≤ 2 ^ 32 = subst (IsNumbered n) e h in
    omega arith

pub shorter : (rest after : Option (Bor (List ℕ))) (text : Bor (List ℕ)) (line : List ℕ)
    → rest ≡ Some text
    → MatchOption after (length line ≡ length text.now)
    (λ r. length line + length r.now < length text.now) → left after < left rest
shorter rest None text line e m = subst (λ r. 0 < left r) (sym e) (omega arith)
shorter rest (Some b) text line e m = subst (λ r. length b.now + 1 < left r) (sym e) (omega arith)

-- ---- the answer

pub if_code : (r : Result Buffer AsmError) (answer whole : Result (List ℕ) AsmFault)
    → whole ≡ answer → MatchResult r (λ code. answer ≡ Ok code.bytes)
    (λ error. Refuses error answer)
    → IfOk r (λ code. whole ≡ Ok code.bytes)
if_code (Ok code) answer whole e h = e ∙ h
if_code (Err error) answer whole e h = tt

pub if_fault : (r : Result Buffer AsmError) (answer whole : Result (List ℕ) AsmFault)
    → whole ≡ answer → MatchResult r (λ code. answer ≡ Ok code.bytes)
    (λ error. Refuses error answer)
    → IfErr r (λ error. Refuses error whole)
if_fault (Ok code) answer whole e h = tt
if_fault (Err error) answer whole e h = subst (λ x. Refuses error x) (sym e) h
