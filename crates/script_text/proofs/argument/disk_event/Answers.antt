use Rattle.std.proofs.Common.{refl}
use Rattle.script_text.proofs.argument.disk_event.Goals as goal

pub returns-in-Slot : goal.returns-in-Slot
returns-in-Slot c texts = rw (c.in-Slot.is, c.number.ensures, c.number-in-Slot.ensures) refl

pub returns-in-SlotInto : goal.returns-in-SlotInto
returns-in-SlotInto c texts =
    rw (c.in-SlotInto.is, c.number-in-SlotInto.ensures, c.number-in-SlotInto-2.ensures, c.name.ensures) refl

pub returns : goal.returns
returns c texts =
    rw (c.in-Overwrite.is, c.number-in-Overwrite.ensures, c.number-in-Overwrite-2.ensures, c.expression.ensures) refl
