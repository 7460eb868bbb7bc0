-- Reading the arguments of a command one after another.
use Rattle.std.proofs.Common.{◌≡◌, ℕ, Bool, true, false, cond, List, [], ◌∷◌, ◌++◌, length, length-drop, drop, ◌+◌, ◌<◌, ◌≤◌, refl, sym, ap, ◌∙◌, append_assoc, append-nil, arith}
use Rattle.std.specs.Prelude.{Option, Some, None, IfSome, Result, Ok, Err}
use Rattle.std.specs.Option.{ok_or}
use Rattle.std.specs.Str.{bytes_eq}
use Rattle.flk_base.specs.Checks.{◌>>=◌}
use Rattle.expr_text.specs.Numbers.{number_of}
use Rattle.expr_text.specs.Expressions.{Term, is_name}
use Rattle.expr_text.specs.ExpressionReading.{all_of, expression_of}
use Rattle.std.proofs.lemmas.List.{drop_more}
use Rattle.script_text.specs.Arguments.{Value, as_value, as_values, IsOf, typed_one, typed, request_from, value_in, values_in}
use Rattle.script_text.specs.Grammar.{Meaning, Meanings, Request, image_kind_word, register_of, row, request}
use Rattle.script_text.specs.Reading.{meaning_in, each_in, texts_in, command_for, command_in, IsEarly, IsLate}
use Rattle.script_text.specs.declared.command.Kind.{Kind}
use Rattle.script_text.specs.declared.command.Kind.TheVariants.{Number, Name, ImageKind, Register, Expression}
use Rattle.script_text.specs.declared.command.Command.{Command}
use Rattle.script_text.specs.Seen.{line_fault}
use Rattle.script_text.specs.declared.line.LineError.{LineError}
use Rattle.script_text.specs.declared.line.LineError.TheVariants.{Fault, NoMemory}
use Rattle.script_text.specs.declared.line.LineFault.{LineFault}
use Rattle.script_text.specs.declared.line.LineFault.TheVariants as fault
use Rattle.script_text.proofs.ReadingLemmas.{fitting, no_fewer}

-- what was read, and what is read after it
abbrev pub after : List Value → Result (List Value) LineFault → Result (List Value) LineFault
after known more = more >>= λ values. Ok (known ++ values)

after_one : (known : List Value) (v : Value) (more : Result (List Value) LineFault)
    → after known (more >>= λ values. Ok (v ∷ values)) ≡ after (known ++ v ∷ []) more
after_one known v (Ok values) = ap Ok (sym (append_assoc known (v ∷ []) values))
after_one known v (Err why) = refl

pub after_nil : (more : Result (List Value) LineFault) → after [] more ≡ more
after_nil (Ok values) = refl
after_nil (Err why) = refl

module _ (kind : Kind) (kinds : List Kind) where
  split_results : (first : Result (Meaning kind) LineFault)
      (rest : Result (Meanings kinds) LineFault)
      → ((first >>= λ meaning. rest >>= λ meanings. Ok
      (let p : Meanings (kind ∷ kinds) = (meaning, meanings) in p))
      >>= λ meanings. Ok (as_values (kind ∷ kinds) meanings))
      ≡ ((first >>= λ meaning. Ok (as_value kind meaning))
      >>= λ v. (rest >>= λ meanings. Ok (as_values kinds meanings)) >>= λ values. Ok (v ∷ values))
  split_results (Ok meaning) (Ok meanings) = refl
  split_results (Ok meaning) (Err why) = refl
  split_results (Err why) rest = refl

  module _ (word : List ℕ) (others : List (List ℕ)) (known : List Value)
      (all : Result (List Value) LineFault) where
    split : values_in (kind ∷ kinds) (word ∷ others)
        ≡ (value_in kind word >>= λ v. values_in kinds others >>= λ values. Ok (v ∷ values))
    split = split_results (meaning_in kind word) (each_in kinds others)

    step : (v : Value) (r : Result Value LineFault) → r ≡ Ok v
        → (r >>= λ x. values_in kinds others >>= λ values. Ok (x ∷ values))
        ≡ (values_in kinds others >>= λ values. Ok (v ∷ values))
    step v r is = rw is refl

    stop : (why : LineFault) (r : Result Value LineFault) → r ≡ Err why
        → (r >>= λ x. values_in kinds others >>= λ values. Ok (x ∷ values)) ≡ Err why
    stop why r is = rw is refl

    read_one : (v : Value) → value_in kind word ≡ Ok v
        → after known (values_in (kind ∷ kinds) (word ∷ others)) ≡ all
        → after (known ++ v ∷ []) (values_in kinds others) ≡ all
    read_one v is before =
        let now : values_in (kind ∷ kinds) (word ∷ others)
        ≡ (values_in kinds others >>= λ values. Ok (v ∷ values)) = split
        ∙ step v (value_in kind word) is in
        sym (after_one known v (values_in kinds others)) ∙ ap (after known) (sym now) ∙ before

    read_fault : (why : LineFault) → value_in kind word ≡ Err why
        → after known (values_in (kind ∷ kinds) (word ∷ others)) ≡ all → all ≡ Err why
    read_fault why is before =
        let now : values_in (kind ∷ kinds) (word ∷ others) ≡ Err why = split
        ∙ stop why (value_in kind word) is in
        sym before ∙ ap (after known) now

    module _ (left : List Kind) (line : List (List ℕ)) (more : left ≡ kind ∷ kinds)
        (next : line ≡ word ∷ others)
        (before : after known (values_in left line) ≡ all) where
      now : after known (values_in (kind ∷ kinds) (word ∷ others)) ≡ all
      now = rw (more, next) at before

      -- one more word is read
      pub read_step : (v : Value) (new : List Value) → value_in kind word ≡ Ok v
          → new ≡ known ++ v ∷ [] → after new (values_in kinds others) ≡ all
      read_step v new is pushed = ap (λ values. after values (values_in kinds others)) pushed
          ∙ read_one v is now

      -- the error of a word is that of all
      pub read_error : (error : LineError)
          → IfSome (line_fault error) (λ why. value_in kind word ≡ Err why)
          → IfSome (line_fault error) (λ why. all ≡ Err why)
      read_error (Fault why) h = read_fault why h now
      read_error NoMemory h = h

-- no word is left
pub read_end : (left : List Kind) (line : List (List ℕ)) (known : List Value)
    (all : Result (List Value) LineFault) → left ≡ []
    → after known (values_in left line) ≡ all → all ≡ Ok known
read_end [] line known all none before = sym before ∙ ap Ok (append-nil known)
read_end (kind ∷ kinds) line known all none before = cc

-- a word is left
pub some_left : (words : List (List ℕ)) (i most : ℕ) (left : List (List ℕ)) → left ≡ drop i words
    → most ≤ length words → i < most → left ≡ [] → ⊥
some_left words i most left before enough low none =
    absurd (omega (arith, length-drop i words, ap length before, ap length none))

-- one more word is taken
pub next_left : (words : List (List ℕ)) (i : ℕ) (left : List (List ℕ)) (word : List ℕ)
    (others : List (List ℕ)) → left ≡ drop i words → left ≡ word ∷ others
    → others ≡ drop (i + 1) words
next_left words i left word others before now =
    let here : word ∷ others ≡ drop i words = sym now ∙ before in
    let low : i < length words = omega (arith, length-drop i words, ap length here) in
    let more = drop_more words i word low in
    cc

-- ---- faults that are late

late_bind : {A B : Type 0} (r : Result A LineFault) (f : A → Result B LineFault) → IsLate r
    → ((x : A) → IsLate (f x)) → IsLate (r >>= f)
late_bind (Ok x) f late more = more x
late_bind (Err why) f late more = late

late_or : {A : Type 0} (o : Option A) (why : LineFault) → (IsEarly why → ⊥) → IsLate (ok_or o why)
late_or (Some x) why late = tt
late_or None why late = late

late_name : (b : Bool) (word : List ℕ)
    → IsLate (let r : Result (List ℕ) LineFault = cond b (Ok word) (Err fault.Name) in r)
late_name true word = tt
late_name false word = λ early. early

late_kind : (b d : Bool)
    → IsLate (let r : Result Bool LineFault = cond b (Ok false) (cond d (Ok true) (Err fault.Name)) in
    r)
late_kind true d = tt
late_kind false true = tt
late_kind false false = λ early. early

late_word : (kind : Kind) (word : List ℕ) → IsLate (meaning_in kind word)
late_word Number word = late_or (number_of word) fault.Number (λ early. early)
late_word Name word = late_name (is_name word) word
late_word ImageKind word =
    late_kind (bytes_eq word (image_kind_word false)) (bytes_eq word (image_kind_word true))
late_word Register word = late_or (register_of word) fault.Name (λ early. early)
late_word Expression word = late_or (expression_of word) fault.Expression (λ early. early)

late_each : (kinds : List Kind) (others : List (List ℕ)) → length kinds ≤ length others
    → IsLate (each_in kinds others)
late_each [] others enough = tt
late_each (kind ∷ kinds) [] enough = absurd (omega arith)
late_each (kind ∷ kinds) (word ∷ others) enough =
    late_bind (meaning_in kind word) _ (late_word kind word)
    (λ meaning. late_bind (each_in kinds others) _ (late_each kinds others (omega arith))
    (λ meanings. tt))

-- where there are no fewer words than a command wants, only they can be wrong
pub late_command : (word : List ℕ) (command : Command) (others : List (List ℕ))
    → command_for word (length others) ≡ Ok command → IsLate (command_in word others)
late_command word command others known =
    let enough = no_fewer _ _ _ (fitting word (length others) command known).1 in
    rw known (late_bind (each_in (row command).kinds others) _
    (late_each (row command).kinds others enough)
    (λ arguments. late_bind (texts_in (row command).kinds others) _
    (late_or (all_of expression_of (drop (length (row command).kinds) others)) fault.Expression
    (λ early. early)) (λ texts. tt)))

-- ---- values by their kinds

module _ (kinds : List Kind) where
  values_are : (r : Result (Meanings kinds) LineFault) (values : List Value)
      → (r >>= λ meanings. Ok (as_values kinds meanings)) ≡ Ok values
      → (meanings : Meanings kinds) × (r ≡ Ok meanings) × (values ≡ as_values kinds meanings)
  values_are (Ok meanings) values h = (meanings, refl, cc)
  values_are (Err why) values h = absurd (cc)

  fault_is : (r : Result (Meanings kinds) LineFault) (why : LineFault)
      → (r >>= λ meanings. Ok (as_values kinds meanings)) ≡ Err why → r ≡ Err why
  fault_is (Ok meanings) why h = absurd (cc)
  fault_is (Err other) why h = let same : other ≡ why = cc in ap Err same

  -- values that were read are of their kinds
  pub are_of : (others : List (List ℕ)) (values : List Value) → values_in kinds others ≡ Ok values
      → IsOf kinds values
  are_of others values h = let v = values_are (each_in kinds others) values h in
      record { meanings = v.0; same = v.2 }

typed_value : (kind : Kind) (meaning : Meaning kind)
    → typed_one kind (as_value kind meaning) ≡ Some meaning
typed_value Number n = refl
typed_value Name name = refl
typed_value ImageKind job = refl
typed_value Register reg = refl
typed_value Expression terms = refl

typed_values : (kinds : List Kind) (meanings : Meanings kinds)
    → typed kinds (as_values kinds meanings) ≡ Some meanings
typed_values [] meanings = refl
typed_values (kind ∷ kinds) meanings =
    rw (typed_value kind meanings.0, typed_values kinds meanings.1) refl

module _ (word : List ℕ) (command : Command) (others : List (List ℕ))
    (known : command_for word (length others) ≡ Ok command) where
  from_meanings : (meanings : Meanings (row command).kinds) (texts : List (List Term))
      → request_from command (as_values (row command).kinds meanings) texts
      ≡ Some (request command meanings texts)
  from_meanings meanings texts = rw (typed_values (row command).kinds meanings) refl

  module _ (values : List Value) (read : values_in (row command).kinds others ≡ Ok values) where
    -- the values and texts that were read make what the line asks for
    pub made : (texts : List (List Term)) (asked : Request)
        → texts_in (row command).kinds others ≡ Ok texts
        → request_from command values texts ≡ Some asked
        → command_in word others ≡ Ok asked
    made texts asked h makes =
        let v = values_are (row command).kinds (each_in (row command).kinds others) values read in
        let from : request_from command values texts ≡ Some (request command v.0 texts) =
        ap (λ vs. request_from command vs texts) v.2 ∙ from_meanings v.0 texts in
        let same : request command v.0 texts ≡ asked = cc in
        rw (known, v.1, h) (ap Ok same)

    unmade_text : (why : LineFault) → texts_in (row command).kinds others ≡ Err why
        → command_in word others ≡ Err why
    unmade_text why h =
        let v = values_are (row command).kinds (each_in (row command).kinds others) values read in
        rw (known, v.1, h) refl

    -- an error of the texts is the line's
    pub unmade_by_text : (error : LineError)
        → IfSome (line_fault error) (λ why. texts_in (row command).kinds others ≡ Err why)
        → IfSome (line_fault error) (λ why. command_in word others ≡ Err why)
    unmade_by_text (Fault why) h = unmade_text why h
    unmade_by_text NoMemory h = h

  -- a fault of the values is the line's
  unmade : (why : LineFault) → values_in (row command).kinds others ≡ Err why
      → command_in word others ≡ Err why
  unmade why h = rw (
    known,
    fault_is (row command).kinds
        (each_in (row command).kinds others) why h,
  ) refl

  -- an error of the values is the line's
  pub unmade_by : (error : LineError)
      → IfSome (line_fault error) (λ why. values_in (row command).kinds others ≡ Err why)
      → IfSome (line_fault error) (λ why. command_in word others ≡ Err why)
  unmade_by (Fault why) h = unmade why h
  unmade_by NoMemory h = h
