-- What the code answers of a turn and of launched code, and what it leaves.
use Rattle.std.specs.Prelude.{◌≡◌, ℕ, ◌≤◌, List, length, take, Option, Some, None, Result, Ok, Err}
use Rattle.flk_base.specs.Stop.{Fused}
use Rattle.flk_base.specs.declared.fuse.PowerLost.{PowerLost}
use Rattle.i386_profile.specs.declared.cpu.Cpu.{Cpu}
use Rattle.i386_profile.specs.Effects.{state}
use Rattle.seal_device.specs.Digests.{DigestDevice}
use Rattle.seal_device.specs.Faults.{power_lost}
use Rattle.machine_memory.specs.Writes.{part}
use Rattle.machine_memory.specs.ArmedWrites.{Armed}
use Rattle.seal_device.specs.declared.faults.SealFault.{SealFault}
use Rattle.seal_device.specs.declared.faults.SealFault.TheVariants as seal_faults
use Rattle.seal_device.specs.declared.faults.UnsealFault.{UnsealFault}
use Rattle.seal_device.specs.declared.faults.UnsealFault.TheVariants as unseal_faults
use Rattle.late_launch.specs.declared.ends.JobRefusal.{JobRefusal}
use Rattle.late_launch.specs.declared.ends.JobRefusal.TheVariants as refusals
use Rattle.late_launch.specs.declared.ends.End.{End}
use Rattle.late_launch.specs.declared.ends.End.TheVariants.{Done}
use Rattle.late_launch.specs.States.{LaunchedParts, session_device}
use Rattle.slb_core.specs.Spans.{around_with}
use Rattle.slb_core.specs.Services.{TurnEnd, Next, Over, longest_outputs, kept_offset}
use Rattle.slb_core.specs.Pal.{CodeStart, PalEnd, CodeEnd, code_end, permits_at, outside}
use Rattle.slb_core.specs.declared.services.Turned.{Turned}
use Rattle.slb_core.specs.declared.services.Turned.TheVariants as turned
use Rattle.slb_core.specs.JobInputs.{Asked}
use Rattle.slb_core.specs.declared.job_inputs.Asked.{Asked as Lent}
use Rattle.slb_core.specs.declared.pal.CodeEnded.{CodeEnded}
use Rattle.slb_core.specs.declared.pal.Ended.{Ended}

-- how many bytes of outputs an end has
abbrev pub count_of : End → ℕ
count_of (Done n) = n
count_of other = 0

-- the outputs of an end: so many first bytes of these, which are no more than a page has
pub record AreOutputs (end : End) (given outputs : List ℕ) : Type 0 where
  pub same : given ≡ take (count_of end) outputs
  pub few : count_of end ≤ longest_outputs

-- the state that a job is to keep stands in its place in the region
abbrev pub StandsIn : List ℕ → List ℕ → Type 0
StandsIn region kept = kept ≡ part region kept_offset (length kept)

-- the answer for a turn that ended so, which leaves these registers, this region and these outputs
abbrev pub AnswersTurn : Option TurnEnd → Result Turned PowerLost → Cpu → List ℕ → List ℕ → Type 0
AnswersTurn None answer cpu region outputs = answer ≡ Err power_lost
AnswersTurn (Some (Next s)) answer cpu region outputs =
    (answer ≡ Ok turned.Next) × ((cpu ≡ s.cpu) × (region ≡ s.bytes))
AnswersTurn (Some (Over end given kept)) answer cpu region outputs =
    (answer ≡ Ok (turned.Over (record { end = end; kept = length kept })))
    × (AreOutputs end given outputs × StandsIn region kept)

-- the code's turn ended as the plan's did: it changed the device, its fuse and the region alone
pub record TurnEnds (end : Fused DigestDevice × Option TurnEnd) (before after : LaunchedParts) (cpu : Cpu) (outputs : List ℕ) (answer : Result Turned PowerLost) : Type 0 where
  pub device : session_device after ≡ end.0
  pub others : after ≡ record before { device = after.device; fuse = after.fuse; region = after.region }
  pub answers : AnswersTurn end.1 answer cpu after.region outputs

-- the answer for a session that ended so, which leaves memory around it, device writes and outputs
abbrev pub AnswersPal : Option PalEnd → Result Ended PowerLost → LaunchedParts → List Armed → List ℕ → Type 0
AnswersPal None answer after writes outputs = answer ≡ Err power_lost
AnswersPal (Some e) answer after writes outputs =
    (answer ≡ Ok (record { end = e.end; turns = e.turns }))
    × ((after.around.bytes ≡ e.outside.bytes) × ((writes ≡ e.outside.writes) × AreOutputs e.end e.outputs outputs))

-- the same session, but for its device and fuse, its region, and the bytes around it
pub record IsLater (before after : LaunchedParts) : Type 0 where
  pub saved : after.saved ≡ before.saved
  pub area : after.area ≡ before.area
  pub around : after.around ≡ around_with before after.around.bytes

-- the answer for launched code that ended so: the same, and the state that a job is to keep stands in the region
abbrev pub AnswersCode : Option CodeEnd → Result CodeEnded PowerLost → LaunchedParts → List Armed → List ℕ → Type 0
AnswersCode None answer after writes outputs = answer ≡ Err power_lost
AnswersCode (Some e) answer after writes outputs =
    (answer ≡ Ok (record { end = e.ended.end; turns = e.ended.turns; kept = length e.kept }))
    × ((after.around.bytes ≡ e.ended.outside.bytes) × ((writes ≡ e.ended.outside.writes)
    × (AreOutputs e.ended.end e.ended.outputs outputs × StandsIn after.region e.kept)))

-- launched code ended as the plan's did
pub record CodeEnds (end : Fused DigestDevice × Option CodeEnd) (before after : LaunchedParts) (writes : List Armed) (outputs : List ℕ) (answer : Result CodeEnded PowerLost) : Type 0 where
  pub device : session_device after ≡ end.0
  pub later : IsLater before after
  pub answers : AnswersCode end.1 answer after writes outputs

-- a session ended as the plan's did
pub record PalEnds (end : Fused DigestDevice × Option PalEnd) (before after : LaunchedParts) (writes : List Armed) (outputs : List ℕ) (answer : Result Ended PowerLost) : Type 0 where
  pub device : session_device after ≡ end.0
  pub later : IsLater before after
  pub answers : AnswersPal end.1 answer after writes outputs

-- ---- what the code sees

-- what was asked for, with bytes in place of what lends them
abbrev pub seen_asked : Lent → Asked
seen_asked asked = record { mode = asked.mode; blob = asked.blob.now; own = asked.own.now }

-- what code runs with in a launched session, from these registers, for so many turns at most, with these writes armed
abbrev pub start_in : LaunchedParts → Cpu → ℕ → List Armed → CodeStart
start_in session start budget writes = record {
  budget = budget;
  permits = permits_at session.around session.area;
  state = state start session.region;
  outside = outside session.around.bytes writes;
}

-- how the code ended that left this session, these writes and these outputs
abbrev pub code_seen : CodeEnded → LaunchedParts → List Armed → List ℕ → CodeEnd
code_seen code session writes outputs =
    code_end code.end code.turns (take (count_of code.end) outputs) (outside session.around.bytes writes)
    (part session.region kept_offset code.kept)

-- why a session is refused, by the error of the code's call; lost power is no refusal
abbrev pub seal_fault_refusal : SealFault → JobRefusal
seal_fault_refusal seal_faults.TooLong = refusals.NotOpen
seal_fault_refusal seal_faults.NoCounter = refusals.NotOpen
seal_fault_refusal seal_faults.CounterEnd = refusals.CounterEnd
seal_fault_refusal seal_faults.SerialEnd = refusals.SerialEnd
seal_fault_refusal seal_faults.Unprovisioned = refusals.Unprovisioned
seal_fault_refusal seal_faults.PowerLost = refusals.NotOpen

abbrev pub unseal_fault_refusal : UnsealFault → JobRefusal
unseal_fault_refusal unseal_faults.NotBlob = refusals.NotOpen
unseal_fault_refusal unseal_faults.WrongChain = refusals.NotOpen
unseal_fault_refusal unseal_faults.WrongCounter = refusals.NotOpen
unseal_fault_refusal unseal_faults.Unprovisioned = refusals.Unprovisioned
unseal_fault_refusal unseal_faults.PowerLost = refusals.NotOpen
