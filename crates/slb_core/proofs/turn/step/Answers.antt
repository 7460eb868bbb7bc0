use Rattle.std.proofs.Common.{◌<◌, refl, length, drop, arith}
use Rattle.std.proofs.lemmas.List.{get_or-drop}
use Rattle.slb_core.proofs.Decoding.{decoded_some, decoded_none, reaches, within_executed, faults_executed}
use Rattle.slb_core.proofs.turn.step.Goals as goal

pub returns-in-Err-clause-reached : goal.returns-in-Err-clause-reached
returns-in-Err-clause-reached c =
    let within : c.args.cpu.now.eip < length c.args.segment.now = omega (arith, c.told-segment) in
    let none = decoded_none (drop c.args.cpu.now.eip c.args.segment.now) (λ i. rw (get_or-drop c.args.cpu.now.eip c.args.segment.now i 0) (c.fits-segment _)) (c.in-Err.ensures.undecoded.0 refl) in
    faults_executed _ _ within none

pub returns-in-Ok-clause-reached : goal.returns-in-Ok-clause-reached
returns-in-Ok-clause-reached c =
    let within : c.args.cpu.now.eip < length c.args.segment.now = omega (arith, c.told-segment) in
    let some = decoded_some (drop c.args.cpu.now.eip c.args.segment.now) c.in-Ok.ins c.in-Ok.count c.in-Ok.ensures.found in
    within_executed _ _ _ _ _ within some (reaches _ _ _ _ c.exec.ensures.effect)
