use Rattle.std.proofs.Common.{refl}
use Rattle.script_text.proofs.argument.values_event.Goals as goal

pub returns-in-Let : goal.returns-in-Let
returns-in-Let c texts = rw (c.in-Let.is, c.name.ensures, c.expression.ensures) refl

pub returns-in-Show : goal.returns-in-Show
returns-in-Show c texts = rw (c.in-Show.is, c.expression-in-Show.ensures) refl

pub returns : goal.returns
returns c texts =
    let entry = c.number.ensures in
    let budget = c.number-in-Image.ensures in
    let code = c.expression-in-Image.ensures in
    rw (c.in-Image.is, c.name-in-Image.ensures, c.image_kind.ensures, entry, budget, code) refl
