-- The grammar of a line: what it asks for, and the table of the commands.
use Rattle.std.specs.Prelude.{◌≡◌, ◌⊎◌, ℕ, ◌≤◌, ◌==◌, ◌||◌, ◌&&◌, nat_le, Bool, true, false, List, [], ◌∷◌, ◌++◌, length, slice_index, codes, Option, Some, None}
use Rattle.std.specs.List.{AllPass, position}
use Rattle.std.specs.Str.{bytes_eq}
use Rattle.expr_text.specs.Numbers.{number_of}
use Rattle.expr_text.specs.Expressions.{Term, is_name, SpellsExpression}
use Rattle.script_text.specs.Lines.{words, content}
use Rattle.script_text.specs.declared.line.TheConstants.{LONGEST_LINE}
use Rattle.script_text.specs.declared.command.Kind.{Kind}
use Rattle.script_text.specs.declared.command.Kind.TheVariants.{Number, Name, ImageKind, Register, Expression}
use Rattle.script_text.specs.declared.command.Command.{Command}
use Rattle.script_text.specs.declared.command.Command.TheVariants.{Device, Values, Memory, Processor, Disk}
use Rattle.script_text.specs.declared.command.DeviceCommand.TheVariants.{Extend, Read, Seed, Unseal, UnsealInto, Counter, Random, RandomInto, Quote, QuoteInto, Check}
use Rattle.script_text.specs.declared.command.ValuesCommand.TheVariants.{Let, Show, Image}
use Rattle.script_text.specs.declared.command.MemoryCommand.TheVariants.{Take, Give, Poke, Peek, Dma}
use Rattle.script_text.specs.declared.command.ProcessorCommand.TheVariants.{SetReg, Regs, Arm, Session, SessionInto}
use Rattle.script_text.specs.declared.command.DiskCommand.TheVariants.{Slot, SlotInto, Overwrite}

-- what a line asks for: nothing, to extend a register by a text, to read a register, to bind a name
-- to a value, to show a value, or to bind a name to the image of some code; of memory to take so
-- many frames, to give back the span at an address, and from an address on to write bytes, to show
-- so many, or to have a device write some; and of the processor to set a register, to show all, to
-- have a device write bytes at a turn of the next session, or to run a session of an image on
-- inputs, and to bind a name, if there is one, to what it puts out; and of the sealing device to
-- give it a seed, to open a blob, and to bind a name, if there is one, to what was sealed in it, to
-- show the value of a counter, to draw a random word, and to bind a name, if there is one, to it, to
-- have it quote register 17 for a nonce, and to bind a name, if there is one, to the quote, or to
-- check whether a quote is that of a session of an image on inputs, with its outputs, its end, its
-- nonce and the texts that it extended by; and of the disk to show the blob in a slot of a job, and
-- to bind a name, if there is one, to it, or to write a blob into a slot of a job
pub data Request : Type 0 where
  Nothing : Request
  ExtendBy : (r : ℕ) → (text : List Term) → Request
  ReadOf : (r : ℕ) → Request
  LetBe : (name : List ℕ) → (value : List Term) → Request
  ShowOf : (value : List Term) → Request
  ImageOf : (name : List ℕ) → (job : Bool) → (entry : ℕ) → (budget : ℕ) → (code : List Term)
      → Request
  TakeOf : (frames : ℕ) → Request
  GiveAt : (at : ℕ) → Request
  PokeAt : (at : ℕ) → (bytes : List Term) → Request
  PeekAt : (at : ℕ) → (count : ℕ) → Request
  DmaAt : (at : ℕ) → (bytes : List Term) → Request
  SetRegOf : (reg : ℕ) → (n : ℕ) → Request
  RegsOf : Request
  ArmAt : (turn : ℕ) → (at : ℕ) → (bytes : List Term) → Request
  SessionOf : (image inputs nonce : List Term) → (var : Option (List ℕ)) → Request
  SeedOf : (seed : List Term) → Request
  UnsealOf : (blob : List Term) → (var : Option (List ℕ)) → Request
  CounterOf : (id : ℕ) → Request
  RandomOf : (var : Option (List ℕ)) → Request
  QuoteOf : (nonce : List Term) → (var : Option (List ℕ)) → Request
  CheckOf : (quote image inputs outputs : List Term) → (end : ℕ) → (nonce : List Term)
      → (texts : List (List Term)) → Request
  SlotOf : (j s : ℕ) → (var : Option (List ℕ)) → Request
  OverwriteOf : (j s : ℕ) → (blob : List Term) → Request

-- ---- words, by their kinds

-- what a word of a kind stands for: a number, a name, whether the image is a job's, the number of
-- a register of the processor, or terms
abbrev pub Meaning : Kind → Type 0
Meaning Number = ℕ
Meaning Name = List ℕ
Meaning ImageKind = Bool
Meaning Register = ℕ
Meaning Expression = List Term

-- what words of these kinds stand for, one after another
abbrev pub Meanings : List Kind → Type 0
Meanings [] = Unit {0}
Meanings (kind ∷ kinds) = Meaning kind × Meanings kinds

-- an image of measured code, or of a job
abbrev pub image_kind_word : Bool → List ℕ
image_kind_word false = codes "pal"
image_kind_word true = codes "job"

-- the names of the registers, by their numbers
abbrev pub register_words : List (List ℕ)
register_words =
    codes "eax" ∷ codes "ecx" ∷ codes "edx" ∷ codes "ebx"
    ∷ codes "esp" ∷ codes "ebp" ∷ codes "esi" ∷ codes "edi" ∷ []

-- the number of the register of this name
unfoldable pub register_of : List ℕ → Option ℕ
register_of word = position (λ name. bytes_eq name word) register_words

-- the word spells this, by its kind
abbrev pub Spells : (kind : Kind) → Meaning kind → List ℕ → Type 0
Spells Number n word = number_of word ≡ Some n
Spells Name name word = (word ≡ name) × (is_name name ≡ true)
Spells ImageKind job word = word ≡ image_kind_word job
Spells Register reg word = register_of word ≡ Some reg
Spells Expression terms word = SpellsExpression terms word

-- the words spell these, each word one
abbrev pub SpellEach : (kinds : List Kind) → Meanings kinds → List (List ℕ) → Type 0
SpellEach [] meanings [] = Unit {0}
SpellEach [] meanings (word ∷ others) = ⊥
SpellEach (kind ∷ kinds) meanings [] = ⊥
SpellEach (kind ∷ kinds) meanings (word ∷ others) =
    Spells kind meanings.0 word × SpellEach kinds meanings.1 others

-- the words spell these texts, each word one expression
abbrev pub SpellTexts : List (List Term) → List (List ℕ) → Type 0
SpellTexts [] [] = Unit {0}
SpellTexts [] (word ∷ others) = ⊥
SpellTexts (terms ∷ texts) [] = ⊥
SpellTexts (terms ∷ texts) (word ∷ others) = SpellsExpression terms word × SpellTexts texts others

-- ---- the table

-- A command's word, the kinds of the words after it, and whether any number of expressions may
-- follow these. A line with a word that may be missing has two rows of one word, without it and
-- with it.
pub record Row : Type 0 where
  pub word : List ℕ
  pub kinds : List Kind
  pub more : Bool

-- the row of each command
abbrev pub row : Command → Row
row (Device Extend) = record { word = codes "extend"; kinds = Number ∷ Expression ∷ []; more = false }
row (Device Read) = record { word = codes "read"; kinds = Number ∷ []; more = false }
row (Values Let) = record { word = codes "let"; kinds = Name ∷ Expression ∷ []; more = false }
row (Values Show) = record { word = codes "show"; kinds = Expression ∷ []; more = false }
row (Values Image) =
    record { word = codes "image"; kinds = Name ∷ ImageKind ∷ Number ∷ Number ∷ Expression ∷ []; more = false }
row (Memory Take) = record { word = codes "take"; kinds = Number ∷ []; more = false }
row (Memory Give) = record { word = codes "give"; kinds = Number ∷ []; more = false }
row (Memory Poke) = record { word = codes "poke"; kinds = Number ∷ Expression ∷ []; more = false }
row (Memory Peek) = record { word = codes "peek"; kinds = Number ∷ Number ∷ []; more = false }
row (Memory Dma) = record { word = codes "dma"; kinds = Number ∷ Expression ∷ []; more = false }
row (Processor SetReg) = record { word = codes "reg"; kinds = Register ∷ Number ∷ []; more = false }
row (Processor Regs) = record { word = codes "regs"; kinds = []; more = false }
row (Processor Arm) = record { word = codes "arm"; kinds = Number ∷ Number ∷ Expression ∷ []; more = false }
row (Processor Session) = record { word = codes "session"; kinds = Expression ∷ Expression ∷ Expression ∷ []; more = false }
row (Processor SessionInto) =
    record { word = codes "session"; kinds = Expression ∷ Expression ∷ Expression ∷ Name ∷ []; more = false }
row (Device Seed) = record { word = codes "seed"; kinds = Expression ∷ []; more = false }
row (Device Unseal) = record { word = codes "unseal"; kinds = Expression ∷ []; more = false }
row (Device UnsealInto) = record { word = codes "unseal"; kinds = Expression ∷ Name ∷ []; more = false }
row (Device Counter) = record { word = codes "counter"; kinds = Number ∷ []; more = false }
row (Device Random) = record { word = codes "random"; kinds = []; more = false }
row (Device RandomInto) = record { word = codes "random"; kinds = Name ∷ []; more = false }
row (Device Quote) = record { word = codes "quote"; kinds = Expression ∷ []; more = false }
row (Device QuoteInto) = record { word = codes "quote"; kinds = Expression ∷ Name ∷ []; more = false }
row (Device Check) =
    record {
      word = codes "check";
      kinds = Expression ∷ Expression ∷ Expression ∷ Expression ∷ Number ∷ Expression ∷ [];
      more = true;
    }
row (Disk Slot) = record { word = codes "slot"; kinds = Number ∷ Number ∷ []; more = false }
row (Disk SlotInto) = record { word = codes "slot"; kinds = Number ∷ Number ∷ Name ∷ []; more = false }
row (Disk Overwrite) =
    record { word = codes "overwrite"; kinds = Number ∷ Number ∷ Expression ∷ []; more = false }

-- what a command asks for with these arguments and the texts after them
abbrev pub request : (command : Command) → Meanings (row command).kinds → List (List Term) → Request
request (Device Extend) (r, (text, _)) _ = ExtendBy r text
request (Device Read) (r, _) _ = ReadOf r
request (Values Let) (name, (value, _)) _ = LetBe name value
request (Values Show) (value, _) _ = ShowOf value
request (Values Image) (name, (job, (entry, (budget, (code, _))))) _ = ImageOf name job entry budget code
request (Memory Take) (frames, _) _ = TakeOf frames
request (Memory Give) (at, _) _ = GiveAt at
request (Memory Poke) (at, (bytes, _)) _ = PokeAt at bytes
request (Memory Peek) (at, (count, _)) _ = PeekAt at count
request (Memory Dma) (at, (bytes, _)) _ = DmaAt at bytes
request (Processor SetReg) (reg, (n, _)) _ = SetRegOf reg n
request (Processor Regs) _ _ = RegsOf
request (Processor Arm) (turn, (at, (bytes, _))) _ = ArmAt turn at bytes
request (Processor Session) (image, (inputs, (nonce, _))) _ = SessionOf image inputs nonce None
request (Processor SessionInto) (image, (inputs, (nonce, (var, _)))) _ =
    SessionOf image inputs nonce (Some var)
request (Device Seed) (seed, _) _ = SeedOf seed
request (Device Unseal) (blob, _) _ = UnsealOf blob None
request (Device UnsealInto) (blob, (var, _)) _ = UnsealOf blob (Some var)
request (Device Counter) (id, _) _ = CounterOf id
request (Device Random) _ _ = RandomOf None
request (Device RandomInto) (var, _) _ = RandomOf (Some var)
request (Device Quote) (nonce, _) _ = QuoteOf nonce None
request (Device QuoteInto) (nonce, (var, _)) _ = QuoteOf nonce (Some var)
request (Device Check) (quote, (image, (inputs, (outputs, (end, (nonce, _)))))) texts =
    CheckOf quote image inputs outputs end nonce texts
request (Disk Slot) (j, (s, _)) _ = SlotOf j s None
request (Disk SlotInto) (j, (s, (var, _))) _ = SlotOf j s (Some var)
request (Disk Overwrite) (j, (s, (blob, _))) _ = OverwriteOf j s blob

-- ---- lines

-- a tab, or a byte from 32 to 126
abbrev pub is_printable : ℕ → Bool
is_printable c = c == 9 || nat_le 32 c && nat_le c 126

-- no words, or a first word that begins with #
abbrev pub is_comment : List (List ℕ) → Bool
is_comment [] = true
is_comment (word ∷ others) = slice_index word 0 == 35

-- the first word is a command's, the others spell its arguments, and further ones, which there are
-- only where more may follow, its texts
pub record SpellsCommand (asked : Request) (line : List (List ℕ)) : Type 0 where
  pub command : Command
  pub arguments : Meanings (row command).kinds
  pub texts : List (List Term)
  pub others : List (List ℕ)
  pub further : List (List ℕ)
  pub asks : asked ≡ request command arguments texts
  pub whole : line ≡ (row command).word ∷ (others ++ further)
  pub each : SpellEach (row command).kinds arguments others
  pub each_text : SpellTexts texts further
  pub none : (row command).more ≡ false → further ≡ []

-- the words spell the request
abbrev pub SpellsWords : Request → List (List ℕ) → Type 0
SpellsWords asked line = ((asked ≡ Nothing) × (is_comment line ≡ true)) ⊎ SpellsCommand asked line

-- the line, without its LF, spells the request
pub record SpellsLine (asked : Request) (line : List ℕ) : Type 0 where
  pub short : length line ≤ LONGEST_LINE
  pub printable : AllPass is_printable (content line)
  pub spelled : SpellsWords asked (words (content line))
