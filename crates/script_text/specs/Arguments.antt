-- What contracts see of the arguments of a command while its line is read.
use Rattle.std.specs.Prelude.{◌≡◌, ℕ, Bool, List, [], ◌∷◌, Option, Some, None, option_map, option_and_then, Result, Ok}
use Rattle.flk_base.specs.Checks.{◌>>=◌}
use Rattle.expr_text.specs.Expressions.{Term}
use Rattle.script_text.specs.Grammar.{Meaning, Meanings, Request, row, request}
use Rattle.script_text.specs.Reading.{meaning_in, each_in}
use Rattle.script_text.specs.declared.argument.Argument.{Argument}
use Rattle.script_text.specs.declared.argument.Argument.TheVariants as argument
use Rattle.script_text.specs.declared.command.Kind.{Kind}
use Rattle.script_text.specs.declared.command.Kind.TheVariants.{Number, Name, ImageKind, Register, Expression}
use Rattle.script_text.specs.declared.command.Command.{Command}
use Rattle.script_text.specs.declared.line.LineFault.{LineFault}

-- what a word stands for, whatever its kind
pub data Value : Type 0 where
  ANumber : (n : ℕ) → Value
  AName : (name : List ℕ) → Value
  AnImageKind : (job : Bool) → Value
  ARegister : (reg : ℕ) → Value
  AnExpression : (terms : List Term) → Value

-- the argument, with bytes in place of what holds them
abbrev pub seen_argument : Argument → Value
seen_argument (argument.Number n) = ANumber n
seen_argument (argument.Name name) = AName name.bytes
seen_argument (argument.ImageKind job) = AnImageKind job
seen_argument (argument.Register reg) = ARegister reg
seen_argument (argument.Expression terms) = AnExpression terms

-- a word's meaning as a value
abbrev pub as_value : (kind : Kind) → Meaning kind → Value
as_value Number n = ANumber n
as_value Name name = AName name
as_value ImageKind job = AnImageKind job
as_value Register reg = ARegister reg
as_value Expression terms = AnExpression terms

-- the meanings of words as values
abbrev pub as_values : (kinds : List Kind) → Meanings kinds → List Value
as_values [] meanings = []
as_values (kind ∷ kinds) meanings = as_value kind meanings.0 ∷ as_values kinds meanings.1

-- the kind of the first value
abbrev pub first_kind : List Value → Option Kind
first_kind [] = None
first_kind (ANumber n ∷ others) = Some Number
first_kind (AName name ∷ others) = Some Name
first_kind (AnImageKind job ∷ others) = Some ImageKind
first_kind (ARegister reg ∷ others) = Some Register
first_kind (AnExpression terms ∷ others) = Some Expression

-- the value of a word, by the kind that it has to be
abbrev pub value_in : (kind : Kind) → List ℕ → Result Value LineFault
value_in kind word = meaning_in kind word >>= λ meaning. Ok (as_value kind meaning)

-- the values of the first words, from the left
abbrev pub values_in : (kinds : List Kind) → List (List ℕ) → Result (List Value) LineFault
values_in kinds others = each_in kinds others >>= λ meanings. Ok (as_values kinds meanings)

-- the values are of these kinds
pub record IsOf (kinds : List Kind) (values : List Value) : Type 0 where
  pub meanings : Meanings kinds
  pub same : values ≡ as_values kinds meanings

-- what a value says of a word of this kind, if it is of this kind
abbrev pub typed_one : (kind : Kind) → Value → Option (Meaning kind)
typed_one Number (ANumber n) = Some n
typed_one Name (AName name) = Some name
typed_one ImageKind (AnImageKind job) = Some job
typed_one Register (ARegister reg) = Some reg
typed_one Expression (AnExpression terms) = Some terms
typed_one kind other = None

-- what values say of words of these kinds
abbrev pub typed : (kinds : List Kind) → List Value → Option (Meanings kinds)
typed [] values = Some tt
typed (kind ∷ kinds) [] = None
typed (kind ∷ kinds) (v ∷ values) =
    option_and_then (λ meaning. option_map (λ meanings. (meaning, meanings)) (typed kinds values))
    (typed_one kind v)

-- what a command asks for with these values and texts
abbrev pub request_from : Command → List Value → List (List Term) → Option Request
request_from command values texts =
    option_map (λ meanings. request command meanings texts) (typed (row command).kinds values)
