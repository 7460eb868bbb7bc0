use Rattle.std.proofs.Common.{◌∙◌, ap, ℕ}
use Rattle.machine_memory.specs.Writes.{part}
use Rattle.session_driver.proofs.driver.read_outputs.Goals as goal

pub returns : goal.returns
returns c =
    c.in_default.ensures.read
    ∙ ap (λ (n : ℕ). part c.args.memory.now.bytes c.page_at-at.result n) c.told-out
    ∙ ap (λ (at : ℕ). part c.args.memory.now.bytes at 4096) c.page_at-at.ensures
