-- What contracts see of an event, and of the error where there is none.
use Rattle.std.specs.Prelude.{◌≤◌, length, ℕ, List, Option, Some, None, option_map, ◌<◌}
use Rattle.script_text.specs.Grammar.{Request, Nothing, ExtendBy, ReadOf, LetBe, ShowOf, ImageOf, TakeOf, GiveAt, PokeAt, PeekAt, DmaAt, SetRegOf, RegsOf, ArmAt, SessionOf, SeedOf, UnsealOf, CounterOf, RandomOf, QuoteOf, CheckOf, SlotOf, OverwriteOf}
use Rattle.expr_text.specs.declared.name.TheConstants.{LONGEST_NAME}
use Rattle.script_text.specs.declared.line.Event.{Event}
use Rattle.script_text.specs.declared.line.Event.TheVariants.{Blank, Extend, Read, Let, Show, Image, Take, Give, Poke, Peek, Dma, SetReg, Regs, Arm, Session, Seed, Unseal, Counter, Random, Quote, Check, Slot, Overwrite}
use Rattle.script_text.specs.declared.line.LineError.{LineError}
use Rattle.script_text.specs.declared.line.LineError.TheVariants.{Fault, NoMemory}
use Rattle.script_text.specs.declared.line.LineFault.{LineFault}

-- what the event asks for
abbrev pub request_of : Event → Request
request_of Blank = Nothing
request_of (Extend r text) = ExtendBy r text
request_of (Read r) = ReadOf r
request_of (Let var value) = LetBe var.bytes value
request_of (Show value) = ShowOf value
request_of (Image var job entry budget code) = ImageOf var.bytes job entry budget code
request_of (Take n) = TakeOf n
request_of (Give at) = GiveAt at
request_of (Poke at bytes) = PokeAt at bytes
request_of (Peek at len) = PeekAt at len
request_of (Dma at bytes) = DmaAt at bytes
request_of (SetReg reg n) = SetRegOf reg n
request_of Regs = RegsOf
request_of (Arm turn at bytes) = ArmAt turn at bytes
request_of (Session image inputs nonce var) =
    SessionOf image inputs nonce (option_map (λ name. name.bytes) var)
request_of (Seed seed) = SeedOf seed
request_of (Unseal blob var) = UnsealOf blob (option_map (λ name. name.bytes) var)
request_of (Counter id) = CounterOf id
request_of (Random var) = RandomOf (option_map (λ name. name.bytes) var)
request_of (Quote nonce var) = QuoteOf nonce (option_map (λ name. name.bytes) var)
request_of (Check quote image inputs outputs end nonce texts) =
    CheckOf quote image inputs outputs end nonce texts
request_of (Slot j s var) = SlotOf j s (option_map (λ name. name.bytes) var)
request_of (Overwrite j s blob) = OverwriteOf j s blob

-- the fault that an error stands for: none where memory ran out
abbrev pub line_fault : LineError → Option LineFault
line_fault (Fault fault) = Some fault
line_fault NoMemory = None

-- 1 to 16 bytes
pub record IsShortName (name : List ℕ) : Type 0 where
  pub some : 1 ≤ length name
  pub short : length name ≤ LONGEST_NAME

-- the name that a request binds has 1 to 16 bytes
abbrev pub HasShortName : Request → Type 0
HasShortName (LetBe name value) = IsShortName name
HasShortName (ImageOf name job entry budget code) = IsShortName name
HasShortName (SessionOf image inputs nonce (Some name)) = IsShortName name
HasShortName (UnsealOf blob (Some name)) = IsShortName name
HasShortName (RandomOf (Some name)) = IsShortName name
HasShortName (QuoteOf nonce (Some name)) = IsShortName name
HasShortName (SlotOf j s (Some name)) = IsShortName name
HasShortName _ = Unit {0}

-- the register that a request sets is one of the eight
abbrev pub HasRegister : Request → Type 0
HasRegister (SetRegOf reg n) = reg < 8
HasRegister _ = Unit {0}
