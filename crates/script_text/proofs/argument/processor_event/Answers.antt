use Rattle.std.proofs.Common.{refl}
use Rattle.script_text.proofs.argument.processor_event.Goals as goal

pub returns-in-SetReg : goal.returns-in-SetReg
returns-in-SetReg c texts = rw (c.in-SetReg.is, c.register.ensures, c.number.ensures) refl

pub returns-in-Regs : goal.returns-in-Regs
returns-in-Regs c texts = rw c.in-Regs.is refl

pub returns-in-Arm : goal.returns-in-Arm
returns-in-Arm c texts =
    rw (c.in-Arm.is, c.number-in-Arm.ensures, c.number-in-Arm-2.ensures, c.expression.ensures) refl

pub returns-in-Session : goal.returns-in-Session
returns-in-Session c texts =
    let image = c.expression-in-Session.ensures in
    let inputs = c.expression-in-Session-2.ensures in
    let nonce = c.expression-in-Session-3.ensures in
    rw (c.in-Session.is, image, inputs, nonce) refl

pub returns : goal.returns
returns c texts =
    let image = c.expression-in-SessionInto.ensures in
    let inputs = c.expression-in-SessionInto-2.ensures in
    let nonce = c.expression-in-SessionInto-3.ensures in
    rw (c.in-SessionInto.is, image, inputs, nonce, c.name.ensures) refl
