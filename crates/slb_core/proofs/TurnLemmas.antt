-- A turn whose instruction calls a gate.
use Rattle.std.proofs.Common.{◌≡◌, ℕ, Bool, List, subst, Result}
use Rattle.flk_base.specs.declared.fuse.PowerLost.{PowerLost}
use Rattle.i386_profile.specs.declared.cpu.Cpu.{Cpu}
use Rattle.i386_profile.specs.declared.cpu.Step.{Step}
use Rattle.i386_profile.specs.declared.cpu.Step.TheVariants as steps
use Rattle.i386_profile.specs.Effects.{State, Outcome, GoesOn, CallsGate, Faults}
use Rattle.seal_device.specs.Digests.{on_device}
use Rattle.late_launch.specs.States.{LaunchedParts, session_device}
use Rattle.slb_core.specs.Spans.{with_region}
use Rattle.slb_core.specs.Turns.{Reaches}
use Rattle.slb_core.specs.Services.{gate, turned}
use Rattle.slb_core.specs.Reports.{TurnEnds}
use Rattle.slb_core.specs.declared.services.Turned.{Turned}

-- it ends as the gate does, in the session that the instruction left
pub gate_ends : (job : Bool) (before between after : LaunchedParts) (cpu : Cpu) (outcome : Outcome) (number : ℕ) (s : State) (outputs : List ℕ) (answer : Result Turned PowerLost)
    → Reaches outcome (steps.Gate number) s → between ≡ with_region before between.region
    → TurnEnds (on_device (gate job number s) (session_device between)) between after cpu outputs answer
    → TurnEnds (on_device (turned job outcome) (session_device before)) before after cpu outputs answer
gate_ends job before between after cpu (GoesOn made) number s outputs answer reaches same t =
    absurd (let clash : ◌≡◌ {A = Step} (steps.Gate number) steps.Next = reaches.0 in cc)
gate_ends job before between after cpu (CallsGate n made) number s outputs answer reaches same t =
    let calls : ◌≡◌ {A = Step} (steps.Gate number) (steps.Gate n) = reaches.0 in
    let numbers : number ≡ n = cc in
    let here : TurnEnds (on_device (gate job number s) (session_device before)) before after cpu outputs answer =
    (let t' = subst (λ (b : LaunchedParts). TurnEnds (on_device (gate job number s) (session_device b)) b after cpu outputs answer) same t in
    record { device = t'.device; others = t'.others; answers = t'.answers }) in
    rw (← numbers, ← reaches.1) here
gate_ends job before between after cpu (Faults kind) number s outputs answer reaches same t =
    absurd (let clash : ◌≡◌ {A = Step} (steps.Gate number) (steps.Fault kind) = reaches in cc)
