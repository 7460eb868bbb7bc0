-- What a turn comes to, and the services that launched code calls by `int 0x80`.
use Rattle.std.specs.Prelude.{ℕ, ◌+◌, ◌-◌, ◌^◌, ◌==◌, ◌&&◌, nat_le, nat_lt, Bool, true, false, List, [], ◌++◌, length, codes, Option, Some, None, Result, Ok, Err, if◌then◌else◌}
use Rattle.flk_base.specs.Plan.{Plan, Return, Ask}
use Rattle.i386_profile.specs.declared.operands.Reg.TheVariants.{Eax, Ecx, Edx, Ebx, Edi}
use Rattle.i386_profile.specs.declared.cpu.FaultKind.{FaultKind}
use Rattle.i386_profile.specs.declared.cpu.FaultKind.TheVariants.{Instruction, Segment}
use Rattle.i386_profile.specs.Flags.{get}
use Rattle.i386_profile.specs.Effects.{State, Outcome, GoesOn, CallsGate, Faults, with_reg}
use Rattle.machine_memory.specs.Writes.{part, written}
use Rattle.seal_device.specs.Sealed.{longest_sealed}
use Rattle.seal_device.specs.Blobs.{blob_size}
use Rattle.tpm_state.specs.Refusals.Create as creates
use Rattle.tpm_state.specs.Refusals.ReadCounter as reads
use Rattle.tpm_state.specs.Refusals.Increment as increments
use Rattle.seal_device.specs.Commands.{Command, Extend, ReadRegister, Seal, Unseal, NewCounter, ReadCounter, Increment, Random, Reply, launch_register}
use Rattle.seal_device.specs.Refusals.Register as registers
use Rattle.seal_device.specs.Refusals.Seal as seals
use Rattle.seal_device.specs.Refusals.Unseal as unseals
use Rattle.seal_device.specs.Refusals.Random as randoms
use Rattle.late_launch.specs.declared.ends.End.{End}
use Rattle.late_launch.specs.declared.ends.End.TheVariants.{Done, Fault}
use Rattle.slb_core.specs.declared.sealing.CounterAsked.{CounterAsked}
use Rattle.slb_core.specs.declared.services.Service.{Service}
use Rattle.slb_core.specs.declared.services.Service.TheVariants as services
use Rattle.slb_core.specs.Turns.{executed}

-- what a turn comes to: the next turn, from this state, or the code's end, with these outputs, and with the state that
-- a job is to keep
pub data TurnEnd : Type 0 where
  Next : State → TurnEnd
  Over : (end : End) → (outputs kept : List ℕ) → TurnEnd

-- the code ends with this fault, and without outputs
abbrev pub over_with : FaultKind → TurnEnd
over_with kind = Over (Fault kind) [] []

abbrev pub fault_segment : TurnEnd
fault_segment = over_with Segment

abbrev pub fault_instruction : TurnEnd
fault_instruction = over_with Instruction

-- how many bytes the segment has: it is the region
abbrev pub segment_size : ℕ
segment_size = 65536

-- so many bytes from an offset on lie in the segment
abbrev pub lies_in : ℕ → ℕ → Bool
lies_in at count = nat_le (at + count) segment_size

-- the state in which eax is the answer of a service: 0, or the number of its refusal
abbrev pub answered : State → ℕ → State
answered s number = with_reg s Eax number

-- ---- the services

-- where the outputs lie in the segment
abbrev pub outputs_offset : ℕ
outputs_offset = 61440

-- the most bytes that inputs or outputs may have
abbrev pub longest_outputs : ℕ
longest_outputs = 4096

-- to end: ebx is how many bytes of outputs there are
abbrev pub to_end : State → TurnEnd
to_end s =
    if nat_le (get s.cpu Ebx) longest_outputs
    then Over (Done (get s.cpu Ebx)) (part s.bytes outputs_offset (get s.cpu Ebx)) []
    else fault_segment

-- to extend register 17: the text lies at ebx, and has ecx bytes
abbrev pub to_extend : State → Plan Command Reply TurnEnd
to_extend s =
    if lies_in (get s.cpu Ebx) (get s.cpu Ecx)
    then Ask (Extend launch_register (codes "pal" ++ part s.bytes (get s.cpu Ebx) (get s.cpu Ecx)))
    (λ reply. Return (Next (answered s 0)))
    else Return fault_segment

-- bytes at edi, where eax is 0
abbrev pub handed : State → List ℕ → State
handed s bytes = answered (record s { bytes = written s.bytes (get s.cpu Edi) bytes }) 0

-- the value of a register at edi, or the refusal's number
abbrev pub shown : State → Result (List ℕ) registers.Refusal → State
shown s (Ok value) = handed s value
shown s (Err registers.NoRegister) = answered s 1

-- to read the register of number ebx: its 20 bytes come to edi
abbrev pub to_read : State → Plan Command Reply TurnEnd
to_read s =
    if lies_in (get s.cpu Edi) 20
    then Ask (ReadRegister (get s.cpu Ebx)) (λ reply. Return (Next (shown s reply)))
    else Return fault_segment

-- bytes at edi, and in ecx how many they are
abbrev pub handed_with_length : State → List ℕ → State
handed_with_length s bytes = with_reg (handed s bytes) Ecx (length bytes)

-- the counter that a number asks for: none by 2^32 - 1, the counter of this number up to 255, and from 256 to 511
-- the one of the number past 256, for its next value; by any other number one that there can't be
abbrev pub counter_asked : ℕ → Option CounterAsked
counter_asked number =
    if number == 2 ^ 32 - 1 then Some (record { id = None; ahead = false })
    else if nat_lt number 256 then Some (record { id = Some number; ahead = false })
    else if nat_lt number 512 then Some (record { id = Some (number - 256); ahead = true })
    else None

-- the number of each refusal to seal
abbrev pub seal_number : seals.Refusal → ℕ
seal_number seals.TooLong = 1
seal_number seals.NoCounter = 2
seal_number seals.CounterEnd = 3
seal_number seals.SerialEnd = 4
seal_number seals.Unprovisioned = 6

-- the blob, or the refusal's number
abbrev pub sealed : State → Result (List ℕ) seals.Refusal → State
sealed s (Ok blob) = handed_with_length s blob
sealed s (Err refusal) = answered s (seal_number refusal)

-- to seal the bytes at ebx, ecx of them, by the counter that is asked for
abbrev pub to_seal_by : State → Option CounterAsked → Plan Command Reply TurnEnd
to_seal_by s None = Return (Next (answered s (seal_number seals.NoCounter)))
to_seal_by s (Some asked) =
    if lies_in (get s.cpu Edi) (blob_size (get s.cpu Ecx))
    then Ask (Seal (part s.bytes (get s.cpu Ebx) (get s.cpu Ecx)) asked.id asked.ahead)
    (λ reply. Return (Next (sealed s reply)))
    else Return fault_segment

-- to seal: the bytes lie at ebx, ecx of them, edx asks for a counter, and the blob comes to edi
abbrev pub to_seal : State → Plan Command Reply TurnEnd
to_seal s =
    if lies_in (get s.cpu Ebx) (get s.cpu Ecx)
    then if nat_le (get s.cpu Ecx) longest_sealed
    then to_seal_by s (counter_asked (get s.cpu Edx))
    else Return (Next (answered s (seal_number seals.TooLong)))
    else Return fault_segment

-- how many bytes may be shown as a blob
abbrev pub longest_shown : ℕ
longest_shown = 4096

-- the number of each refusal to unseal
abbrev pub unseal_number : unseals.Refusal → ℕ
unseal_number unseals.NotBlob = 1
unseal_number unseals.WrongChain = 2
unseal_number unseals.WrongCounter = 3
unseal_number unseals.Unprovisioned = 6

-- the bytes that were sealed, or the refusal's number
abbrev pub opened : State → Result (List ℕ) unseals.Refusal → TurnEnd
opened s (Ok bytes) =
    if lies_in (get s.cpu Edi) (length bytes) then Next (handed_with_length s bytes) else fault_segment
opened s (Err refusal) = Next (answered s (unseal_number refusal))

-- to unseal: the blob lies at ebx, ecx bytes of it, and what was sealed in it comes to edi
abbrev pub to_unseal : State → Plan Command Reply TurnEnd
to_unseal s =
    if lies_in (get s.cpu Ebx) (get s.cpu Ecx)
    then if nat_le (get s.cpu Ecx) longest_shown
    then Ask (Unseal (part s.bytes (get s.cpu Ebx) (get s.cpu Ecx))) (λ reply. Return (opened s reply))
    else Return (Next (answered s (unseal_number unseals.NotBlob)))
    else Return fault_segment

-- ---- counters and random words

-- the last number that a counter may be asked for by
abbrev pub last_id : ℕ
last_id = 255

-- the number of each refusal to create a counter
abbrev pub create_number : creates.Refusal → ℕ
create_number creates.Full = 1
create_number creates.End = 2

-- the counter's id in ebx, or the refusal's number
abbrev pub created : State → Result ℕ creates.Refusal → State
created s (Ok id) = with_reg (answered s 0) Ebx id
created s (Err refusal) = answered s (create_number refusal)

-- to create a counter, which register 17's present value owns
abbrev pub to_create : State → Plan Command Reply TurnEnd
to_create s = Ask NewCounter (λ reply. Return (Next (created s reply)))

-- the number of the refusal to read a counter
abbrev pub read_number : reads.Refusal → ℕ
read_number reads.NoCounter = 3

-- the number of each refusal to increment a counter
abbrev pub increment_number : increments.Refusal → ℕ
increment_number increments.End = 2
increment_number increments.NoCounter = 3
increment_number increments.NotOwner = 4

-- a counter's value in ecx, or the refusal's number
abbrev pub counted : {E : Type 0} → (E → ℕ) → State → Result ℕ E → State
counted number s (Ok value) = with_reg (answered s 0) Ecx value
counted number s (Err refusal) = answered s (number refusal)

-- to read the counter of number ebx
abbrev pub to_read_counter : State → Plan Command Reply TurnEnd
to_read_counter s =
    if nat_le (get s.cpu Ebx) last_id
    then Ask (ReadCounter (get s.cpu Ebx)) (λ reply. Return (Next (counted read_number s reply)))
    else Return (Next (answered s (read_number reads.NoCounter)))

-- to increment the counter of number ebx
abbrev pub to_increment : State → Plan Command Reply TurnEnd
to_increment s =
    if nat_le (get s.cpu Ebx) last_id
    then Ask (Increment (get s.cpu Ebx)) (λ reply. Return (Next (counted increment_number s reply)))
    else Return (Next (answered s (increment_number increments.NoCounter)))

-- the number of each refusal to draw a random word
abbrev pub random_number : randoms.Refusal → ℕ
random_number randoms.RandomEnd = 4
random_number randoms.Unprovisioned = 6

-- a random word at edi, or the refusal's number
abbrev pub drawn : State → Result (List ℕ) randoms.Refusal → State
drawn s (Ok word) = handed s word
drawn s (Err refusal) = answered s (random_number refusal)

-- to draw a random word: its 20 bytes come to edi
abbrev pub to_draw : State → Plan Command Reply TurnEnd
to_draw s =
    if lies_in (get s.cpu Edi) 20
    then Ask Random (λ reply. Return (Next (drawn s reply)))
    else Return fault_segment

-- ---- the gate of services

-- the service of a number, if it has one
abbrev pub service_of : ℕ → Option Service
service_of number =
    if number == 0 then Some services.End
    else if number == 1 then Some services.Extend
    else if number == 2 then Some services.ReadRegister
    else if number == 3 then Some services.Seal
    else if number == 4 then Some services.Unseal
    else if number == 5 then Some services.NewCounter
    else if number == 6 then Some services.ReadCounter
    else if number == 7 then Some services.Increment
    else if number == 8 then Some services.Random
    else None

-- what a service comes to
abbrev pub comes_to : Option Service → State → Plan Command Reply TurnEnd
comes_to (Some services.End) s = Return (to_end s)
comes_to (Some services.Extend) s = to_extend s
comes_to (Some services.ReadRegister) s = to_read s
comes_to (Some services.Seal) s = to_seal s
comes_to (Some services.Unseal) s = to_unseal s
comes_to (Some services.NewCounter) s = to_create s
comes_to (Some services.ReadCounter) s = to_read_counter s
comes_to (Some services.Increment) s = to_increment s
comes_to (Some services.Random) s = to_draw s
comes_to None s = Return fault_instruction

-- ---- the services of a job's code

-- the most bytes of outputs that the code of a job may have
abbrev pub longest_job_outputs : ℕ
longest_job_outputs = 1024

-- where the state of a job lies in the segment
abbrev pub kept_offset : ℕ
kept_offset = 63488

-- to end the code of a job: ebx is how many bytes of outputs there are, and edx how many of state
unfoldable pub to_keep : State → TurnEnd
to_keep s =
    if nat_le (get s.cpu Ebx) longest_job_outputs && nat_le (get s.cpu Edx) longest_sealed
    then Over (Done (get s.cpu Ebx)) (part s.bytes outputs_offset (get s.cpu Ebx))
    (part s.bytes kept_offset (get s.cpu Edx))
    else fault_segment

-- the answer to a service that the code of a job may not call
abbrev pub not_for_jobs : ℕ
not_for_jobs = 7

-- what a service comes to that the code of a job calls: it may end, and draw random words
abbrev pub comes_to_in_job : Option Service → State → Plan Command Reply TurnEnd
comes_to_in_job (Some services.End) s = Return (to_keep s)
comes_to_in_job (Some services.Random) s = to_draw s
comes_to_in_job (Some other) s = Return (Next (answered s not_for_jobs))
comes_to_in_job None s = Return fault_instruction

-- what a service comes to, by whether a job's code calls it
abbrev pub served : Bool → Option Service → State → Plan Command Reply TurnEnd
served false service s = comes_to service s
served true service s = comes_to_in_job service s

-- ---- turns

-- the number of the gate that calls a service
abbrev pub service_gate : ℕ
service_gate = 128

-- what a gate comes to: the service that eax names; there is no other gate
abbrev pub gate : Bool → ℕ → State → Plan Command Reply TurnEnd
gate job number s =
    if number == service_gate then served job (service_of (get s.cpu Eax)) s else Return fault_instruction

-- what an instruction comes to
abbrev pub turned : Bool → Outcome → Plan Command Reply TurnEnd
turned job (GoesOn s) = Return (Next s)
turned job (CallsGate number s) = gate job number s
turned job (Faults kind) = Return (over_with kind)

-- a turn: the instruction at eip
abbrev pub turn : Bool → State → Plan Command Reply TurnEnd
turn job s = turned job (executed s)
