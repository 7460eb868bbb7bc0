-- What an event comes to once its expressions have their values, which is first.
use Rattle.std.specs.Prelude.{ℕ, ◌+◌, ◌*◌, ◌==◌, ◌&&◌, nat_le, nat_lt, Bool, List, [], ◌∷◌, length, Option, Some, None, Result, Ok, Err, IsOk, if◌then◌else◌}
use Rattle.flk_base.specs.Checks.{◌>>=◌}
use Rattle.tpm_state.specs.Sessions.{Session}
use Rattle.expr_text.specs.Expressions.{Term}
use Rattle.expr_text.specs.Variables.{Table}
use Rattle.expr_text.specs.Values.{value_of}
use Rattle.expr_text.specs.declared.value.TheConstants.{LONGEST_VALUE}
use Rattle.script_text.specs.Grammar.{Request, Nothing, ExtendBy, ReadOf, LetBe, ShowOf, ImageOf, TakeOf, GiveAt, PokeAt, PeekAt, DmaAt, SetRegOf, RegsOf, ArmAt, SessionOf, SeedOf, UnsealOf, CounterOf, RandomOf, QuoteOf, CheckOf, SlotOf, OverwriteOf}
use Rattle.expr_text.specs.declared.value.ExprFault.{ExprFault}
use Rattle.slb_image.specs.Image.{pack}
use Rattle.slb_image.specs.Faults.{build_fault}
use Rattle.slb_image.specs.declared.fault.ImageFault.{ImageFault}
use Rattle.job_store.specs.declared.sizes.TheConstants.{JOBS, LONGEST_BLOB}
use Rattle.flk_run.specs.declared.answers.TheConstants.{LINE_ROOM, REGISTER_ROOM, QUOTE_ROOM, UNSEAL_ROOM, SLOT_ROOM, SESSION_ROOM}
use Rattle.flk_run.specs.declared.tasks.TheConstants.{NONCE_LEN}
use Rattle.flk_run.specs.declared.answers.Refusal.{Refusal}
use Rattle.flk_run.specs.declared.answers.Refusal.TheVariants.{NoValue, NoImage, NoLong, NoNonce, NoCounter, NoEnd, NoSlot}

-- nothing; to answer a refusal; to extend a register by a text; to read one; to bind a name to a
-- value; to show a value; to bind a name to an image, and to answer how long it is; to take a span of
-- memory, to give one back, to write bytes into one, to show bytes of one, or to have a device write
-- bytes; to set a register of the processor, to show all, to arm a device write for a turn of the
-- next session, or to run a session, and to bind a name to its outputs; to give the device a seed, to
-- unseal a blob, and to bind a name to what was sealed in it; to read a counter; to draw a random
-- word, and to bind a name to it; to quote register 17 for a nonce, and to bind a name to the quote; to
-- check whether bytes are the quote of a session; to show the blob in a slot of the disk, and to bind a
-- name to it; or to write a blob into one
pub data Task : Type 0 where
  Rest : Task
  Refuse : (why : Refusal) → Task
  Extend : (r : ℕ) → (text : List ℕ) → Task
  Read : (r : ℕ) → Task
  Bind : (name : List ℕ) → (value : List ℕ) → Task
  Show : (bytes : List ℕ) → Task
  BindImage : (name : List ℕ) → (image : List ℕ) → Task
  Take : (frames : ℕ) → Task
  Give : (at : ℕ) → Task
  Poke : (at : ℕ) → (bytes : List ℕ) → Task
  Peek : (at : ℕ) → (count : ℕ) → Task
  Dma : (at : ℕ) → (bytes : List ℕ) → Task
  SetRegister : (reg : ℕ) → (n : ℕ) → Task
  ShowRegisters : Task
  Arm : (turn : ℕ) → (at : ℕ) → (bytes : List ℕ) → Task
  RunSession : (image inputs nonce : List ℕ) → (var : Option (List ℕ)) → Task
  Seed : (seed : List ℕ) → Task
  Unseal : (blob : List ℕ) → (var : Option (List ℕ)) → Task
  ReadCounter : (id : ℕ) → Task
  Draw : (var : Option (List ℕ)) → Task
  Quote : (nonce : List ℕ) → (var : Option (List ℕ)) → Task
  Check : (session : Session) → (quote : List ℕ) → Task
  ReadSlot : (j s : ℕ) → (var : Option (List ℕ)) → Task
  Overwrite : (j s : ℕ) → (blob : List ℕ) → Task

-- the room that is made for the line of a task's answer; nothing has no line
abbrev pub room : Task → ℕ
room Rest = 0
room (Show bytes) = LINE_ROOM + 2 * length bytes
room (Peek at count) = LINE_ROOM + 2 * count
room (RunSession image inputs nonce var) = SESSION_ROOM
room (Unseal blob var) = UNSEAL_ROOM
room (Quote nonce var) = QUOTE_ROOM
room (ReadSlot j s var) = SLOT_ROOM
room other = REGISTER_ROOM

-- beside that room, a task may allocate: for a value, for a name, for bytes of memory to show, for a
-- ticket, or for outputs. A refusal allocates nothing, but an image's fault is found in its code's
-- value
abbrev pub MayAllocate : Task → Type 0
MayAllocate Rest = ⊥
MayAllocate (Refuse (NoImage fault)) = Unit {0}
MayAllocate (Refuse why) = ⊥
MayAllocate (Read r) = ⊥
MayAllocate (Give at) = ⊥
MayAllocate (SetRegister reg n) = ⊥
MayAllocate ShowRegisters = ⊥
MayAllocate (ReadCounter id) = ⊥
MayAllocate (Draw None) = ⊥
MayAllocate other = Unit {0}

-- the task for a value; the fault of an expression that has none is the answer
abbrev pub task_or_fault : Result (List ℕ) ExprFault → (List ℕ → Task) → Task
task_or_fault (Ok bytes) task = task bytes
task_or_fault (Err fault) task = Refuse (NoValue fault)

-- the task for the value of an expression
abbrev pub value_task : List Term → Table → (List ℕ → Task) → Task
value_task terms table task = task_or_fault (value_of terms table) task

-- the image, where the values have one
abbrev pub image_or_fault : List ℕ → Option ImageFault → List ℕ → Task
image_or_fault name None image = BindImage name image
image_or_fault name (Some fault) image = Refuse (NoImage fault)

-- to show so many bytes, where they are no more than a value may have
abbrev pub peek_or_long : ℕ → ℕ → Task
peek_or_long at count = if nat_lt LONGEST_VALUE count then Refuse NoLong else Peek at count

-- a session, where the nonce has 20 bytes
abbrev pub session_or_nonce : List ℕ → List ℕ → List ℕ → Option (List ℕ) → Task
session_or_nonce image inputs nonce var =
    if length nonce == NONCE_LEN then RunSession image inputs nonce var else Refuse NoNonce

-- a quote, where the nonce has 20 bytes
abbrev pub quote_or_nonce : List ℕ → Option (List ℕ) → Task
quote_or_nonce nonce var = if length nonce == NONCE_LEN then Quote nonce var else Refuse NoNonce

-- the last number that may be a session's end
abbrev pub last_end : ℕ
last_end = 255

-- a check, where the nonce has 20 bytes and there can be such an end
abbrev pub check_or_refusal : Session → List ℕ → Task
check_or_refusal session quote =
    if length session.nonce == NONCE_LEN
    then (if nat_le session.end last_end then Check session quote else Refuse NoEnd)
    else Refuse NoNonce

-- the values of expressions, or the first fault from the left
abbrev pub values_of : List (List Term) → Table → Result (List (List ℕ)) ExprFault
values_of [] table = Ok []
values_of (terms ∷ others) table =
    value_of terms table >>= λ value. values_of others table >>= λ values. Ok (value ∷ values)

-- the task for the values of expressions; the first fault of one that has none is the answer
abbrev pub tasks_or_fault : Result (List (List ℕ)) ExprFault → (List (List ℕ) → Task) → Task
tasks_or_fault (Ok values) task = task values
tasks_or_fault (Err fault) task = Refuse (NoValue fault)

-- the last number that a counter may be asked for by
abbrev pub last_counter : ℕ
last_counter = 255

-- to read a counter, where there can be one of this number
abbrev pub counter_or_none : ℕ → Task
counter_or_none id = if nat_le id last_counter then ReadCounter id else Refuse NoCounter

-- the disk has such a slot: 0 or 1 of a job below 8
abbrev pub is_slot : ℕ → ℕ → Bool
is_slot j s = nat_lt j JOBS && nat_lt s 2

-- to show the blob in a slot, where there is one of these numbers
abbrev pub slot_or_none : ℕ → ℕ → Option (List ℕ) → Task
slot_or_none j s var = if is_slot j s then ReadSlot j s var else Refuse NoSlot

-- to write a blob into a slot, where there is one of these numbers, and the slot has room for it
abbrev pub overwrite_or_refusal : ℕ → ℕ → List ℕ → Task
overwrite_or_refusal j s blob =
    if is_slot j s
    then (if nat_le (length blob) LONGEST_BLOB then Overwrite j s blob else Refuse NoLong)
    else Refuse NoSlot

-- what a request comes to
abbrev pub task_of : Request → Table → Task
task_of Nothing table = Rest
task_of (ExtendBy r text) table = value_task text table (λ bytes. Extend r bytes)
task_of (ReadOf r) table = Read r
task_of (LetBe name value) table = value_task value table (λ bytes. Bind name bytes)
task_of (ShowOf value) table = value_task value table (λ bytes. Show bytes)
task_of (ImageOf name job entry budget code) table =
    value_task code table (λ bytes.
    image_or_fault name (build_fault entry budget bytes) (pack entry budget job bytes))
task_of (TakeOf frames) table = Take frames
task_of (GiveAt at) table = Give at
task_of (PokeAt at bytes) table = value_task bytes table (λ value. Poke at value)
task_of (PeekAt at count) table = peek_or_long at count
task_of (DmaAt at bytes) table = value_task bytes table (λ value. Dma at value)
task_of (SetRegOf reg n) table = SetRegister reg n
task_of RegsOf table = ShowRegisters
task_of (ArmAt turn at bytes) table = value_task bytes table (λ value. Arm turn at value)
task_of (SessionOf image inputs nonce var) table =
    value_task image table (λ image.
    value_task inputs table (λ inputs.
    value_task nonce table (λ nonce. session_or_nonce image inputs nonce var)))
task_of (SeedOf seed) table = value_task seed table (λ bytes. Seed bytes)
task_of (UnsealOf blob var) table = value_task blob table (λ bytes. Unseal bytes var)
task_of (CounterOf id) table = counter_or_none id
task_of (RandomOf var) table = Draw var
task_of (QuoteOf nonce var) table = value_task nonce table (λ nonce. quote_or_nonce nonce var)
task_of (CheckOf quote image inputs outputs end nonce texts) table =
    value_task quote table (λ quote.
    value_task image table (λ image.
    value_task inputs table (λ inputs.
    value_task outputs table (λ outputs.
    value_task nonce table (λ nonce.
    tasks_or_fault (values_of texts table) (λ texts.
    check_or_refusal
    (record {
      image = image;
      texts = texts;
      inputs = inputs;
      outputs = outputs;
      end = end;
      nonce = nonce;
    }) quote))))))
task_of (SlotOf j s var) table = slot_or_none j s var
task_of (OverwriteOf j s blob) table = value_task blob table (λ bytes. overwrite_or_refusal j s bytes)

-- a request may allocate where its task may; that of a session, of a quote, of a check and of a blob
-- for a slot, where its first expression has a value
abbrev pub MayAllocateFor : Request → Table → Type 0
MayAllocateFor (SessionOf image inputs nonce var) table = IsOk (value_of image table)
MayAllocateFor (QuoteOf nonce var) table = IsOk (value_of nonce table)
MayAllocateFor (CheckOf quote image inputs outputs end nonce texts) table =
    IsOk (value_of quote table)
MayAllocateFor (OverwriteOf j s blob) table = IsOk (value_of blob table)
MayAllocateFor other table = MayAllocate (task_of other table)
