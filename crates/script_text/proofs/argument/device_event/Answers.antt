use Rattle.std.proofs.Common.{refl}
use Rattle.script_text.proofs.argument.device_event.Goals as goal

pub returns-in-Extend : goal.returns-in-Extend
returns-in-Extend c = rw (c.in-Extend.is, c.number.ensures, c.expression.ensures) refl

pub returns-in-Read : goal.returns-in-Read
returns-in-Read c = rw (c.in-Read.is, c.number-in-Read.ensures) refl

pub returns-in-Seed : goal.returns-in-Seed
returns-in-Seed c = rw (c.in-Seed.is, c.expression-in-Seed.ensures) refl

pub returns-in-Unseal : goal.returns-in-Unseal
returns-in-Unseal c = rw (c.in-Unseal.is, c.expression-in-Unseal.ensures) refl

pub returns-in-UnsealInto : goal.returns-in-UnsealInto
returns-in-UnsealInto c =
    rw (c.in-UnsealInto.is, c.expression-in-UnsealInto.ensures, c.name.ensures) refl

pub returns-in-Counter : goal.returns-in-Counter
returns-in-Counter c = rw (c.in-Counter.is, c.number-in-Counter.ensures) refl

pub returns-in-Random : goal.returns-in-Random
returns-in-Random c = rw c.in-Random.is refl

pub returns-in-RandomInto : goal.returns-in-RandomInto
returns-in-RandomInto c = rw (c.in-RandomInto.is, c.name-in-RandomInto.ensures) refl

pub returns-in-Quote : goal.returns-in-Quote
returns-in-Quote c = rw (c.in-Quote.is, c.expression-in-Quote.ensures) refl

pub returns-in-QuoteInto : goal.returns-in-QuoteInto
returns-in-QuoteInto c =
    rw (c.in-QuoteInto.is, c.expression-in-QuoteInto.ensures, c.name-in-QuoteInto.ensures) refl

pub returns-in-Check : goal.returns-in-Check
returns-in-Check c = rw c.in-Check.is c.check_event.ensures
