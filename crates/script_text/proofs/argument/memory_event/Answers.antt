use Rattle.std.proofs.Common.{refl}
use Rattle.script_text.proofs.argument.memory_event.Goals as goal

pub returns-in-Take : goal.returns-in-Take
returns-in-Take c texts = rw (c.in-Take.is, c.number.ensures) refl

pub returns-in-Give : goal.returns-in-Give
returns-in-Give c texts = rw (c.in-Give.is, c.number-in-Give.ensures) refl

pub returns-in-Poke : goal.returns-in-Poke
returns-in-Poke c texts = rw (c.in-Poke.is, c.number-in-Poke.ensures, c.expression.ensures) refl

pub returns-in-Peek : goal.returns-in-Peek
returns-in-Peek c texts = rw (c.in-Peek.is, c.number-in-Peek.ensures, c.number-in-Peek-2.ensures) refl

pub returns : goal.returns
returns c texts = rw (c.in-Dma.is, c.number-in-Dma.ensures, c.expression-in-Dma.ensures) refl
