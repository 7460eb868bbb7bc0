-- What is read without a fault is what the line spells, and the other way round.
use Rattle.std.proofs.Common.{◌≡◌, ℕ, ◌+◌, ◌<◌, ◌≤◌, get_or, drop, inl, inr, Bool, true, false, List, [], ◌∷◌, ◌++◌, length, refl, sym, ap, subst, ◌∙◌, arith, length-append, append-nil, le-leb}
use Rattle.std.specs.Prelude.{Option, Some, None, option_map, Result, Ok, Err, IfOk, nat_lt}
use Rattle.std.specs.List.{list_all, find}
use Rattle.std.specs.Str.{bytes_eq}
use Rattle.std.specs.Cmp.Lexicographic.{same_text}
use Rattle.std.proofs.lemmas.Bool.Decides.{nat_tests}
use Rattle.std.proofs.lemmas.Bool.{eqb-true, eq-eqb, leb-true, and_parts}
use Rattle.std.proofs.lemmas.List.{drop_more, drop_all}
use Rattle.std.proofs.Math.Seq.{drop-append_seam}
use Rattle.std.proofs.lemmas.List.Quantifiers.{position-Some}
use Rattle.std.proofs.lemmas.List.Sums.{AllPass-from_list_all, list_all-from_AllPass}
use Rattle.flk_base.specs.Checks.{◌>>=◌, Gives}
use Rattle.expr_text.specs.Numbers.{number_of}
use Rattle.expr_text.specs.Expressions.{Term, is_name}
use Rattle.expr_text.specs.ExpressionReading.{all_of, expression_of}
use Rattle.expr_text.proofs.ExpressionLemmas as expression
use Rattle.expr_text.proofs.PlainLemmas.{chosen, has_some, first_step}
use Rattle.script_text.specs.Lines.{words, content}
use Rattle.script_text.specs.Grammar.{Request, Nothing, Meaning, Meanings, image_kind_word, Spells, SpellEach, SpellTexts, row, request, is_printable, is_comment, SpellsCommand, SpellsWords, SpellsLine, register_of, register_words}
use Rattle.script_text.specs.Reading.{meaning_in, each_in, texts_in, command_of, command_in, words_in, reading, is_command, is_count, fits, command_for}
use Rattle.script_text.specs.Seen.{line_fault, IsShortName, HasShortName, HasRegister}
use Rattle.script_text.specs.declared.command.Kind.{Kind}
use Rattle.script_text.specs.declared.command.Kind.TheVariants.{Number, Name, ImageKind, Register, Expression}
use Rattle.script_text.specs.declared.command.Command.{Command}
use Rattle.script_text.specs.declared.command.Command.TheVariants.{Device, Values, Memory, Processor, Disk}
use Rattle.script_text.specs.declared.command.DeviceCommand.TheVariants.{Extend, Read, Seed, Unseal, UnsealInto, Counter, Random, RandomInto, Quote, QuoteInto, Check}
use Rattle.script_text.specs.declared.command.ValuesCommand.TheVariants.{Let, Show, Image}
use Rattle.script_text.specs.declared.command.MemoryCommand.TheVariants.{Take, Give, Poke, Peek, Dma}
use Rattle.script_text.specs.declared.command.ProcessorCommand.TheVariants.{SetReg, Regs, Arm, Session, SessionInto}
use Rattle.script_text.specs.declared.command.DiskCommand.TheVariants.{Slot, SlotInto, Overwrite}
use Rattle.script_text.specs.declared.command.TheConstants.{COMMANDS}
use Rattle.script_text.specs.declared.line.TheConstants.{LONGEST_LINE}
use Rattle.script_text.specs.declared.line.LineFault.{LineFault}
use Rattle.script_text.specs.declared.line.LineFault.TheVariants as fault
use Rattle.script_text.specs.declared.line.LineError.{LineError}

bind_ok : {A B : Type 0} (r : Result A LineFault) (f : A → Result B LineFault) (y : B)
    → (r >>= f) ≡ Ok y → (x : A) × (r ≡ Ok x) × (f x ≡ Ok y)
bind_ok (Ok x) f y h = (x, refl, h)
bind_ok (Err e) f y h = cc

-- ---- the table

-- the command of a row's word and of as many words as may stand after it, and no comment begins with
-- the word
pub record IsListed (command : Command) : Type 0 where
  pub known : is_command (row command).word ≡ true
  pub found : (count : ℕ) → is_count (row command).more (length (row command).kinds) count ≡ true
      → command_of (row command).word count ≡ Some command
  pub plain : (others : List (List ℕ)) → is_comment ((row command).word ∷ others) ≡ false

-- where no more may follow, it is enough to look at as many words as kinds
fixed : (command : Command) → (row command).more ≡ false → is_command (row command).word ≡ true
    → command_of (row command).word (length (row command).kinds) ≡ Some command
    → ((others : List (List ℕ)) → is_comment ((row command).word ∷ others) ≡ false)
    → IsListed command
fixed command none known here plain =
    record {
      known = known;
      found = λ count h. let few = rw none at h in rw (eqb-true count _ few) here;
      plain = plain;
    }

pub listed : (command : Command) → IsListed command
unfolding is_command command_of
listed (Device Extend) = fixed (Device Extend) refl refl refl (λ others. refl)
listed (Device Read) = fixed (Device Read) refl refl refl (λ others. refl)
listed (Values Let) = fixed (Values Let) refl refl refl (λ others. refl)
listed (Values Show) = fixed (Values Show) refl refl refl (λ others. refl)
listed (Values Image) = fixed (Values Image) refl refl refl (λ others. refl)
listed (Memory Take) = fixed (Memory Take) refl refl refl (λ others. refl)
listed (Memory Give) = fixed (Memory Give) refl refl refl (λ others. refl)
listed (Memory Poke) = fixed (Memory Poke) refl refl refl (λ others. refl)
listed (Memory Peek) = fixed (Memory Peek) refl refl refl (λ others. refl)
listed (Memory Dma) = fixed (Memory Dma) refl refl refl (λ others. refl)
listed (Processor SetReg) = fixed (Processor SetReg) refl refl refl (λ others. refl)
listed (Processor Regs) = fixed (Processor Regs) refl refl refl (λ others. refl)
listed (Processor Arm) = fixed (Processor Arm) refl refl refl (λ others. refl)
listed (Processor Session) = fixed (Processor Session) refl refl refl (λ others. refl)
listed (Processor SessionInto) = fixed (Processor SessionInto) refl refl refl (λ others. refl)
listed (Device Seed) = fixed (Device Seed) refl refl refl (λ others. refl)
listed (Device Unseal) = fixed (Device Unseal) refl refl refl (λ others. refl)
listed (Device UnsealInto) = fixed (Device UnsealInto) refl refl refl (λ others. refl)
listed (Device Counter) = fixed (Device Counter) refl refl refl (λ others. refl)
listed (Device Random) = fixed (Device Random) refl refl refl (λ others. refl)
listed (Device RandomInto) = fixed (Device RandomInto) refl refl refl (λ others. refl)
listed (Device Quote) = fixed (Device Quote) refl refl refl (λ others. refl)
listed (Device QuoteInto) = fixed (Device QuoteInto) refl refl refl (λ others. refl)
listed (Device Check) = record { known = refl; found = λ count h. rw h refl; plain = λ others. refl }
listed (Disk Slot) = fixed (Disk Slot) refl refl refl (λ others. refl)
listed (Disk SlotInto) = fixed (Disk SlotInto) refl refl refl (λ others. refl)
listed (Disk Overwrite) = fixed (Disk Overwrite) refl refl refl (λ others. refl)

passes : {A : Type 0} (test : A → Bool) (xs : List A) (x : A) → find test xs ≡ Some x
    → test x ≡ true
passes test [] x h = cc
passes test (y ∷ ys) x h = elim (chosen (test y) _ _ _ h) [
  | inl took ↦ let e : y ≡ x = cc in ap test (sym e) ∙ took.0
  | inr other ↦ passes test ys x other.1
]

module _ {A : Type 0} (test : A → Bool) (xs : List A) (i : ℕ) where
  -- an element that fails the test is passed
  pub find_more : (d : A) → i < length xs → test (get_or xs i d) ≡ false
      → find test (drop (i + 1) xs) ≡ find test (drop i xs)
  find_more d low fails = rw (drop_more xs i d low, fails) refl

  -- an element that passes it is found
  pub find_here : (d : A) → i < length xs → test (get_or xs i d) ≡ true
      → find test (drop i xs) ≡ Some (get_or xs i d)
  find_here d low pass = rw (drop_more xs i d low, pass) refl

  -- none is left
  pub find_end : length xs ≤ i → find test (drop i xs) ≡ None
  find_end high = rw (drop_all i xs high) refl

-- a command that is found for a word and so many is theirs
pub found_for : (word : List ℕ) (count : ℕ) (command : Command)
    → command_for word count ≡ Ok command → command_of word count ≡ Some command
found_for word count command h = elim (chosen (is_command word) _ _ _ h) [
  | inl took ↦ has_some (command_of word count) fault.Count command took.1
  | inr other ↦ cc
]

-- a command is found for the word of its row, and for as many words as may stand after it
pub fitting : (word : List ℕ) (count : ℕ) (command : Command)
    → command_for word count ≡ Ok command
    → ((row command).word ≡ word)
    × (is_count (row command).more (length (row command).kinds) count ≡ true)
unfolding command_of
fitting word count command h =
    let found = found_for word count command h in
    let both = and_parts _ _ (passes (fits word count) COMMANDS command found) in
    (same_text (row command).word word (sym both.0), both.1)

-- so many words are no fewer than the kinds
pub no_fewer : (more : Bool) (kinds count : ℕ) → is_count more kinds count ≡ true → kinds ≤ count
no_fewer true kinds count h = leb-true kinds count h
no_fewer false kinds count h = let same = eqb-true count kinds h in omega arith

-- ---- what is read is spelled so

word_found : (kind : Kind) (word : List ℕ) (meaning : Meaning kind)
    → meaning_in kind word ≡ Ok meaning → Spells kind meaning word
word_found Number word n h = has_some (number_of word) fault.Number n h
word_found Name word name h = elim (chosen (is_name word) _ _ _ h) [
  | inl took ↦ let e : word ≡ name = cc in (e, ap is_name (sym e) ∙ took.0)
  | inr other ↦ cc
]
word_found ImageKind word job h = elim (chosen (bytes_eq word (image_kind_word false)) _ _ _ h) [
  | inl took ↦ let e : false ≡ job = cc in same_text word (image_kind_word false) (sym took.0)
      ∙ ap image_kind_word e
  | inr other ↦ elim (chosen (bytes_eq word (image_kind_word true)) _ _ _ other.1) [
    | inl took ↦ let e : true ≡ job = cc in same_text word (image_kind_word true) (sym took.0)
        ∙ ap image_kind_word e
    | inr neither ↦ cc
  ]
]
word_found Register word reg h = has_some (register_of word) fault.Name reg h
word_found Expression word terms h =
    expression.found word terms (has_some (expression_of word) fault.Expression terms h)

-- the words that spell these are the first of the others
record FirstSpell (kinds : List Kind) (meanings : Meanings kinds) (others : List (List ℕ)) : Type 0 where
  front : List (List ℕ)
  whole : others ≡ front ++ drop (length kinds) others
  each : SpellEach kinds meanings front

each_found : (kinds : List Kind) (others : List (List ℕ)) (meanings : Meanings kinds)
    → each_in kinds others ≡ Ok meanings → FirstSpell kinds meanings others
each_found [] others meanings h = record { front = []; whole = refl; each = tt }
each_found (kind ∷ kinds) [] meanings h = cc
each_found (kind ∷ kinds) (word ∷ others) meanings h =
    let first = bind_ok (meaning_in kind word) _ meanings h in
    let rest = bind_ok (each_in kinds others) _ meanings first.2 in
    let e : (let p : Meanings (kind ∷ kinds) = (first.0, rest.0) in p) ≡ meanings = cc in
    let more = each_found kinds others rest.0 rest.1 in
    subst (λ (p : Meanings (kind ∷ kinds)). FirstSpell (kind ∷ kinds) p (word ∷ others)) e
    (record {
      front = word ∷ more.front;
      whole = ap (λ ws. word ∷ ws) more.whole;
      each = (word_found kind word first.0 first.1, more.each);
    })

rest_of : {A : Type 0} (o : Option (List A)) (x : A) (all : List A)
    → option_map (λ xs. x ∷ xs) o ≡ Some all → (xs : List A) × (o ≡ Some xs) × (x ∷ xs ≡ all)
rest_of (Some xs) x all h = (xs, refl, cc)
rest_of None x all h = absurd (cc)

all_found : (others : List (List ℕ)) (texts : List (List Term))
    → all_of expression_of others ≡ Some texts → SpellTexts texts others
all_found [] [] h = tt
all_found [] (terms ∷ texts) h = cc
all_found (word ∷ others) texts h =
    let first = first_step _ (expression_of word) texts h in
    let rest = rest_of (all_of expression_of others) first.0 texts first.2 in
    subst (λ all. SpellTexts all (word ∷ others)) rest.2
    (expression.found word first.0 first.1, all_found others rest.0 rest.1)

-- where no more may follow, no words are left
pub none_left : (more : Bool) (kinds : List Kind) (others : List (List ℕ))
    → is_count more (length kinds) (length others) ≡ true → more ≡ false
    → drop (length kinds) others ≡ []
none_left true kinds others h only = cc
none_left false kinds others h only =
    let same = eqb-true (length others) (length kinds) h in drop_all (length kinds) others (omega arith)

command_found : (word : List ℕ) (others : List (List ℕ)) (asked : Request)
    → command_in word others ≡ Ok asked → SpellsCommand asked (word ∷ others)
command_found word others asked h =
    let c = bind_ok (command_for word (length others)) _ asked h in
    let m = bind_ok (each_in (row c.0).kinds others) _ asked c.2 in
    let t = bind_ok (texts_in (row c.0).kinds others) _ asked m.2 in
    let e : request c.0 m.0 t.0 ≡ asked = cc in
    let fit = fitting word (length others) c.0 c.1 in
    let first = each_found (row c.0).kinds others m.0 m.1 in
    record {
      command = c.0;
      arguments = m.0;
      texts = t.0;
      others = first.front;
      further = drop (length (row c.0).kinds) others;
      asks = sym e;
      whole = ap (λ w. w ∷ others) (sym fit.0) ∙ ap (λ ws. (row c.0).word ∷ ws) first.whole;
      each = first.each;
      each_text = all_found _ t.0 (has_some _ fault.Expression t.0 t.1);
      none = none_left (row c.0).more (row c.0).kinds others fit.1;
    }

words_found : (line : List (List ℕ)) (asked : Request) → words_in line ≡ Ok asked
    → SpellsWords asked line
words_found [] asked h = let e : asked ≡ Nothing = cc in inl (e, refl)
words_found (word ∷ others) asked h =
    elim (chosen (is_comment (word ∷ others)) _ _ _ h) [
      | inl took ↦ let e : asked ≡ Nothing = cc in inl (e, took.0)
      | inr other ↦ inr (command_found word others asked other.1)
    ]

pub found : (line : List ℕ) (asked : Request) → reading line ≡ Ok asked → SpellsLine asked line
found line asked h =
    elim (chosen (nat_lt LONGEST_LINE (length line)) _ _ _ h) [
      | inl took ↦ cc
      | inr short ↦
          elim (chosen (list_all is_printable (content line)) _ _ _ short.1) [
            | inl took ↦ record {
              short = grind (arith, nat_tests);
              printable = AllPass-from_list_all is_printable (content line) took.0;
              spelled = words_found (words (content line)) asked took.1;
            }
            | inr other ↦ cc
          ]
    ]

-- ---- what is spelled so is read

word_again : (kind : Kind) (word : List ℕ) (meaning : Meaning kind) → Spells kind meaning word
    → meaning_in kind word ≡ Ok meaning
word_again Number word n h = rw h refl
word_again Name word name h = let e : is_name word ≡ true = ap is_name h.0 ∙ h.1 in rw e (ap Ok h.0)
word_again ImageKind word false h = rw h refl
word_again ImageKind word true h = rw h refl
word_again Register word reg h = rw h refl
word_again Expression word terms h = rw (expression.again terms word h) refl

each_length : (kinds : List Kind) (others : List (List ℕ)) (meanings : Meanings kinds)
    → SpellEach kinds meanings others → length others ≡ length kinds
each_length [] [] meanings s = refl
each_length [] (word ∷ others) meanings s = absurd s
each_length (kind ∷ kinds) [] meanings s = absurd s
each_length (kind ∷ kinds) (word ∷ others) meanings s =
    let e = each_length kinds others meanings.1 s.1 in omega arith

each_again : (kinds : List Kind) (others further : List (List ℕ)) (meanings : Meanings kinds)
    → SpellEach kinds meanings others → each_in kinds (others ++ further) ≡ Ok meanings
each_again [] [] further meanings s = refl
each_again [] (word ∷ others) further meanings s = absurd s
each_again (kind ∷ kinds) [] further meanings s = absurd s
each_again (kind ∷ kinds) (word ∷ others) further meanings s =
    rw (word_again kind word meanings.0 s.0, each_again kinds others further meanings.1 s.1) refl

all_again : (others : List (List ℕ)) (texts : List (List Term)) → SpellTexts texts others
    → all_of expression_of others ≡ Some texts
all_again [] [] s = refl
all_again [] (terms ∷ texts) s = absurd s
all_again (word ∷ others) [] s = absurd s
all_again (word ∷ others) (terms ∷ texts) s =
    rw (expression.again terms word s.0, all_again others texts s.1) refl

texts_again : (kinds : List Kind) (others further : List (List ℕ)) (texts : List (List Term))
    → length others ≡ length kinds → SpellTexts texts further
    → texts_in kinds (others ++ further) ≡ Ok texts
texts_again kinds others further texts same s =
    rw (sym same, drop-append_seam others further, all_again further texts s) refl

counted : (more : Bool) (kinds : ℕ) (others further : List (List ℕ)) → length others ≡ kinds
    → (more ≡ false → further ≡ []) → is_count more kinds (length (others ++ further)) ≡ true
counted true kinds others further same none =
    le-leb kinds _ (omega (arith, length-append others further, same))
counted false kinds others further same none =
    rw (none refl, append-nil others, same) (eq-eqb kinds kinds refl)

-- there are as many words as may be
pub may_follow : (asked : Request) (line : List (List ℕ)) (s : SpellsCommand asked line)
    → is_count (row s.command).more (length (row s.command).kinds) (length (s.others ++ s.further))
    ≡ true
may_follow asked line s =
    counted (row s.command).more _ s.others s.further
    (each_length (row s.command).kinds s.others s.arguments s.each) s.none

command_again : (asked : Request) (line : List (List ℕ)) → SpellsCommand asked line
    → words_in line ≡ Ok asked
command_again asked line s =
    let known = listed s.command in
    rw (
      s.whole,
      s.asks,
      known.plain (s.others ++ s.further),
      known.known,
      known.found _ (may_follow asked line s),
      each_again (row s.command).kinds s.others s.further s.arguments s.each,
      texts_again (row s.command).kinds s.others s.further s.texts
          (each_length (row s.command).kinds s.others s.arguments s.each) s.each_text,
    ) refl

words_again : (asked : Request) (line : List (List ℕ)) → SpellsWords asked line
    → words_in line ≡ Ok asked
words_again asked [] (inl none) = rw none.0 refl
words_again asked (word ∷ others) (inl none) = rw (none.0, none.1) refl
words_again asked line (inr s) = command_again asked line s

pub again : (line : List ℕ) (asked : Request) → SpellsLine asked line → reading line ≡ Ok asked
again line asked h =
    let short : nat_lt LONGEST_LINE (length line) ≡ false = grind (arith, nat_tests, h.short) in
    rw (short, list_all-from_AllPass is_printable (content line) h.printable)
    (words_again asked (words (content line)) h.spelled)

pub found_if : {X : Type 0} (view : X → Request) (r : Result X LineError) (line : List ℕ)
    → Gives line_fault view r (reading line) → IfOk r (λ x. SpellsLine (view x) line)
found_if view (Ok x) line h = found line (view x) h
found_if view (Err e) line h = tt

-- ---- names and registers

is_name_short : (word : List ℕ) → is_name word ≡ true → IsShortName word
is_name_short [] h = cc
is_name_short (c ∷ cs) h = record { some = omega arith; short = grind (arith, nat_tests, h) }

-- what is known of a meaning by its kind
abbrev Keeps : (kind : Kind) → Meaning kind → Type 0
Keeps Name name = IsShortName name
Keeps Register reg = reg < 8
Keeps kind meaning = Unit {0}

-- the same of each
abbrev KeepEach : (kinds : List Kind) → Meanings kinds → Type 0
KeepEach [] meanings = Unit {0}
KeepEach (kind ∷ kinds) meanings = Keeps kind meanings.0 × KeepEach kinds meanings.1

register_low : (word : List ℕ) (reg : ℕ) → register_of word ≡ Some reg → reg < 8
unfolding register_of
register_low word reg h =
    (position-Some (λ name. bytes_eq name word) register_words reg [] h).0

keeps : (kind : Kind) (word : List ℕ) (meaning : Meaning kind) → Spells kind meaning word
    → Keeps kind meaning
keeps Number word n s = tt
keeps Name word name s = is_name_short name s.1
keeps ImageKind word job s = tt
keeps Register word reg s = register_low word reg s
keeps Expression word terms s = tt

keep_each : (kinds : List Kind) (others : List (List ℕ)) (meanings : Meanings kinds)
    → SpellEach kinds meanings others → KeepEach kinds meanings
keep_each [] others meanings s = tt
keep_each (kind ∷ kinds) [] meanings s = absurd s
keep_each (kind ∷ kinds) (word ∷ others) meanings s =
    (keeps kind word meanings.0 s.0, keep_each kinds others meanings.1 s.1)

request_short : (command : Command) (arguments : Meanings (row command).kinds)
    (texts : List (List Term)) → KeepEach (row command).kinds arguments
    → HasShortName (request command arguments texts)
request_short (Values Let) arguments texts k = k.0
request_short (Values Image) arguments texts k = k.0
request_short (Processor SessionInto) arguments texts k = k.1.1.1.0
request_short (Device UnsealInto) arguments texts k = k.1.0
request_short (Device RandomInto) arguments texts k = k.0
request_short (Device QuoteInto) arguments texts k = k.1.0
request_short (Disk SlotInto) arguments texts k = k.1.1.0
request_short (Memory Take) arguments texts k = tt
request_short _ arguments texts k = tt

request_register : (command : Command) (arguments : Meanings (row command).kinds)
    (texts : List (List Term)) → KeepEach (row command).kinds arguments
    → HasRegister (request command arguments texts)
request_register (Processor SetReg) arguments texts k = k.0
request_register (Device Extend) arguments texts k = tt
request_register (Values Let) arguments texts k = tt
request_register (Memory Take) arguments texts k = tt
request_register (Disk Slot) arguments texts k = tt
request_register _ arguments texts k = tt

-- a name that is bound has 1 to 16 bytes
words_short : (asked : Request) (line : List (List ℕ)) → SpellsWords asked line → HasShortName asked
words_short asked line (inl none) = rw none.0 tt
words_short asked line (inr s) =
    rw s.asks (request_short s.command s.arguments s.texts (keep_each _ s.others s.arguments s.each))

-- a register that is set is one of the eight
words_register : (asked : Request) (line : List (List ℕ)) → SpellsWords asked line
    → HasRegister asked
words_register asked line (inl none) = rw none.0 tt
words_register asked line (inr s) =
    rw s.asks (request_register s.command s.arguments s.texts (keep_each _ s.others s.arguments s.each))

module _ {X : Type 0} (view : X → Request) where
  pub short_if : (r : Result X LineError) (line : List ℕ)
      → Gives line_fault view r (reading line) → IfOk r (λ x. HasShortName (view x))
  short_if (Ok x) line h =
      words_short (view x) (words (content line)) (found line (view x) h).spelled
  short_if (Err e) line h = tt

  pub register_if : (r : Result X LineError) (line : List ℕ)
      → Gives line_fault view r (reading line) → IfOk r (λ x. HasRegister (view x))
  register_if (Ok x) line h =
      words_register (view x) (words (content line)) (found line (view x) h).spelled
  register_if (Err e) line h = tt
