use Rattle.std.proofs.Common.{subst}
use Rattle.i386_profile.specs.declared.cpu.Step.{Step}
use Rattle.i386_profile.specs.Effects.{state}
use Rattle.slb_core.specs.Turns.{executed, Reaches}
use Rattle.slb_core.proofs.TurnLemmas.{gate_ends}
use Rattle.slb_core.proofs.services.take_turn.Goals as goal

pub returns-in-Gate : goal.returns-in-Gate
returns-in-Gate c =
    let was = state c.args.cpu.now c.args.session.now.region in
    let now = state c.execute.new.cpu c.execute.new.session.region in
    gate_ends c.args.job c.args.session.now c.execute.new.session c.serve_gate.new.session c.serve_gate.new.cpu (executed was) c.in-Gate.number now c.serve_gate.new.outputs c.serve_gate.result
    (subst (λ (step : Step). Reaches (executed was) step now) c.in-Gate.is c.execute.ensures.reached)
    c.execute.ensures.others c.serve_gate.ensures
