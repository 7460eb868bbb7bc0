-- How clauses see what the code holds while it does an event.
use Rattle.std.specs.Prelude.{◌≡◌, ◌≤◌, ◌<◌, length, map, Bool, true, false, [], Some}
use Rattle.std.specs.Option.{option_map, IfSome}
use Rattle.seal_device.specs.Digests.{digests}
use Rattle.script_text.specs.Seen.{IsShortName}
use Rattle.expr_text.specs.declared.value.TheConstants.{LONGEST_VALUE}
use Rattle.expr_text.specs.Variables.{Table}
use Rattle.flk_base.specs.declared.buffer.Bytes.{Bytes}
use Rattle.tpm_state.specs.Sessions.{Session}
use Rattle.job_store.specs.declared.sizes.TheConstants.{JOBS, LONGEST_BLOB}
use Rattle.flk_run.specs.declared.answers.TheConstants.{LONGEST_OUTPUTS}
use Rattle.flk_run.specs.declared.answers.Answer.{Answer as HeldAnswer}
use Rattle.flk_run.specs.declared.answers.Answer.TheVariants as answer
use Rattle.flk_run.specs.declared.checks.CheckTask.{CheckTask}
use Rattle.flk_run.specs.declared.tasks.Task.{Task as HeldTask}
use Rattle.flk_run.specs.declared.tasks.Task.TheVariants as held
use Rattle.flk_run.specs.Answers.{Answer, Quiet, Done, Counts, Shows, Registers, Ended, Says, Refused}
use Rattle.flk_run.specs.Events.{task_step}
use Rattle.flk_run.specs.Platform.{DigestPlatform}
use Rattle.flk_run.specs.Parts.{HostParts, platform_with}
use Rattle.flk_run.specs.Tasks.{Task, Rest, Refuse, Extend, Read, Bind, Show, BindImage, Take, Give, Poke, Peek, Dma, SetRegister, ShowRegisters, Arm, RunSession, Seed, Unseal, ReadCounter, Draw, Quote, Check, ReadSlot, Overwrite}

-- the session that is described to a check
abbrev pub seen_session : CheckTask → Session
seen_session check = record {
  image = check.image.bytes;
  texts = map (λ text. text.bytes) check.texts.items;
  inputs = check.inputs.bytes;
  outputs = check.outputs.bytes;
  end = check.end;
  nonce = check.nonce;
}

-- the task, with bytes in place of what holds them
abbrev pub seen_task : HeldTask → Task
seen_task held.Rest = Rest
seen_task (held.Refuse why) = Refuse why
seen_task (held.Extend r text) = Extend r text.bytes
seen_task (held.Read r) = Read r
seen_task (held.Bind name value) = Bind name.now value.bytes
seen_task (held.Show value) = Show value.bytes
seen_task (held.BindImage name image) = BindImage name.now image.bytes
seen_task (held.Take frames) = Take frames
seen_task (held.Give at) = Give at
seen_task (held.Poke at bytes) = Poke at bytes.bytes
seen_task (held.Peek at bytes) = Peek at (length bytes.items)
seen_task (held.Dma at bytes) = Dma at bytes.bytes
seen_task (held.SetRegister reg n) = SetRegister reg n
seen_task held.ShowRegisters = ShowRegisters
seen_task (held.Arm turn at bytes) = Arm turn at bytes.bytes
seen_task (held.RunSession session) =
    RunSession session.image.bytes session.inputs.bytes session.nonce
    (option_map (λ bound. bound.name.now) session.bound)
seen_task (held.Seed seed) = Seed seed.bytes
seen_task (held.Unseal unseal) =
    Unseal unseal.blob.bytes (option_map (λ bound. bound.name.now) unseal.bound)
seen_task (held.ReadCounter id) = ReadCounter id
seen_task (held.Draw bound) = Draw (option_map (λ bound. bound.name.now) bound)
seen_task (held.Quote nonce bound) = Quote nonce (option_map (λ bound. bound.name.now) bound)
seen_task (held.Check check) = Check (seen_session check) check.quote.bytes
seen_task (held.ReadSlot slot) =
    ReadSlot slot.j slot.s (option_map (λ bound. bound.name.now) slot.bound)
seen_task (held.Overwrite j s blob) = Overwrite j s blob.bytes

-- the name that a task binds has 1 to 16 bytes
abbrev pub IsNamed : Task → Type 0
IsNamed (Bind name value) = IsShortName name
IsNamed (BindImage name image) = IsShortName name
IsNamed (RunSession image inputs nonce (Some name)) = IsShortName name
IsNamed (Unseal blob (Some name)) = IsShortName name
IsNamed (Draw (Some name)) = IsShortName name
IsNamed (Quote nonce (Some name)) = IsShortName name
IsNamed (ReadSlot j s (Some name)) = IsShortName name
IsNamed _ = Unit {0}

-- there is room for the outputs of a session, for what was sealed in a blob, or for the blob of a slot,
-- and nothing stands in it
pub record IsRoom (room : Bytes) : Type 0 where
  pub none : room.bytes ≡ []
  pub enough : LONGEST_OUTPUTS ≤ room.spare

-- a task that runs a session has room for its outputs, one that unseals a blob for what was sealed in
-- it, and one that reads a slot for its blob: for showing them, and for the name that it binds; one that draws a random word or quotes has
-- room for the name alone
abbrev pub HasRoom : HeldTask → Type 0
HasRoom (held.RunSession session) =
    IsRoom session.outputs × IfSome session.bound (λ bound. IsRoom bound.value)
HasRoom (held.Unseal unseal) =
    IsRoom unseal.bytes × IfSome unseal.bound (λ bound. IsRoom bound.value)
HasRoom (held.ReadSlot slot) =
    IsRoom slot.bytes × IfSome slot.bound (λ bound. IsRoom bound.value)
HasRoom (held.Draw bound) = IfSome bound (λ bound. IsRoom bound.value)
HasRoom (held.Quote nonce bound) = IfSome bound (λ bound. IsRoom bound.value)
HasRoom other = Unit {0}

-- the slot that a task reads or writes is one of the disk's, and has room for the blob
abbrev pub HasSlot : Task → Type 0
HasSlot (ReadSlot j s var) = (j < JOBS) × (s < 2)
HasSlot (Overwrite j s blob) = (j < JOBS) × (s < 2) × (length blob ≤ LONGEST_BLOB)
HasSlot _ = Unit {0}

-- what a task shows has at most 65,536 bytes
abbrev pub IsShown : Task → Type 0
IsShown (Show bytes) = length bytes ≤ LONGEST_VALUE
IsShown (Peek at count) = count ≤ LONGEST_VALUE
IsShown _ = Unit {0}

-- a task binds a name
abbrev pub binds : Task → Bool
binds (Bind name value) = true
binds (BindImage name image) = true
binds (RunSession image inputs nonce (Some name)) = true
binds (Unseal blob (Some name)) = true
binds (Draw (Some name)) = true
binds (Quote nonce (Some name)) = true
binds (ReadSlot j s (Some name)) = true
binds _ = false

-- a task takes a span
abbrev pub takes : Task → Bool
takes (Take frames) = true
takes _ = false

-- a task may run out of memory while it is done: one that arms a device write, takes a span, or runs
-- a session
abbrev pub may_run_out : Task → Bool
may_run_out (Arm turn at bytes) = true
may_run_out (Take frames) = true
may_run_out (RunSession image inputs nonce var) = true
may_run_out _ = false

-- the answer, with bytes in place of what holds them
abbrev pub seen_answer : HeldAnswer → Answer
seen_answer answer.Quiet = Quiet
seen_answer answer.Done = Done
seen_answer (answer.Counts n) = Counts n
seen_answer (answer.Register value) = Shows value
seen_answer (answer.Quoted value) = Shows value
seen_answer (answer.Shows value) = Shows value.bytes
seen_answer (answer.Peeked bytes) = Shows bytes.items
seen_answer (answer.Registers values) = Registers values
seen_answer (answer.Ended over) = Ended (record {
  end = over.end;
  turns = over.turns;
  writes_done = over.writes_done;
  writes_blocked = over.writes_blocked;
  writes_left = over.writes_left;
  outputs = over.outputs.bytes;
})
seen_answer (answer.Says told) = Says told
seen_answer (answer.Refused why) = Refused why

-- the outputs that an answer shows have at most 4,096 bytes
abbrev pub HasShortOutputs : Answer → Type 0
HasShortOutputs (Ended over) = length over.outputs ≤ LONGEST_OUTPUTS
HasShortOutputs other = Unit {0}

-- the bytes that an answer shows are at most 4,096
abbrev pub IsShortShown : Answer → Type 0
IsShortShown (Shows bytes) = length bytes ≤ LONGEST_OUTPUTS
IsShortShown other = Unit {0}

-- the platform of a host, with these variables
abbrev pub platform_at : HostParts → Table → DigestPlatform
platform_at host variables = platform_with host.armed host.board host.spans host.disk variables

-- a host whose platform is known did the task as the platform does, whatever the variables
abbrev pub Steps : Task → HostParts → HostParts → HeldAnswer → Type 0
Steps task before after answer =
    (variables : Table) →
    (platform_at after variables, seen_answer answer) ≡ task_step digests task (platform_at before variables)
