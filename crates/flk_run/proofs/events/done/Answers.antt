use Rattle.std.proofs.Common.{◌≡◌, ℕ, List, subst}
use Rattle.seal_device.specs.Digests.{digests}
use Rattle.flk_run.specs.Answers.{Answer}
use Rattle.flk_run.specs.Platform.{DigestPlatform}
use Rattle.flk_run.specs.Events.{task_step}
use Rattle.flk_run.specs.Seen.{platform_at, seen_answer}
use Rattle.flk_run.specs.Tasks.{Seed}
use Rattle.flk_run.proofs.events.done.Goals as goal

pub returns-in-Extend-clause-done : goal.returns-in-Extend-clause-done
returns-in-Extend-clause-done c =
    rw (c.in-Extend.is, ← c.as_slice.ensures)
    (λ untaken. c.extend.ensures.steps untaken c.args.vars.now.table)

pub returns-in-Read-clause-done : goal.returns-in-Read-clause-done
returns-in-Read-clause-done c =
    rw c.in-Read.is (λ untaken. c.read.ensures.steps untaken c.args.vars.now.table)

pub returns-in-Give-clause-done : goal.returns-in-Give-clause-done
returns-in-Give-clause-done c =
    rw c.in-Give.is (λ untaken. c.give.ensures.steps untaken c.args.vars.now.table)

pub returns-in-Poke-clause-done : goal.returns-in-Poke-clause-done
returns-in-Poke-clause-done c =
    rw (c.in-Poke.is, ← c.as_slice-in-Poke.ensures)
    (λ untaken. c.poke.ensures.steps untaken c.args.vars.now.table)

pub returns-in-Peek-clause-done : goal.returns-in-Peek-clause-done
returns-in-Peek-clause-done c =
    rw c.in-Peek.is (λ untaken. c.peek.ensures.steps untaken c.args.vars.now.table)

pub returns-in-Dma-clause-done : goal.returns-in-Dma-clause-done
returns-in-Dma-clause-done c =
    rw (c.in-Dma.is, ← c.as_slice-in-Dma.ensures)
    (λ untaken. c.dma.ensures.steps untaken c.args.vars.now.table)

pub returns-in-SetRegister-clause-done : goal.returns-in-SetRegister-clause-done
returns-in-SetRegister-clause-done c =
    rw c.in-SetRegister.is
    (λ untaken. c.set_register.ensures.steps untaken c.args.vars.now.table)

pub returns-in-ShowRegisters-clause-done : goal.returns-in-ShowRegisters-clause-done
returns-in-ShowRegisters-clause-done c =
    rw c.in-ShowRegisters.is
    (λ untaken. c.show_registers.ensures.steps untaken c.args.vars.now.table)

pub returns-in-Seed-clause-done : goal.returns-in-Seed-clause-done
returns-in-Seed-clause-done c =
    let host = c.args.host in
    let after = c.seed-in-Seed.result in
    rw c.in-Seed.is (λ untaken.
    subst (λ (seed : List ℕ).
    ◌≡◌ {A = DigestPlatform × Answer}
    (platform_at after.0 c.args.vars.now.table, seen_answer after.1)
    (task_step digests (Seed seed) (platform_at host c.args.vars.now.table)))
    c.as_slice-in-Seed.ensures (c.seed-in-Seed.ensures.steps untaken c.args.vars.now.table))

pub returns-in-Unseal-clause-done : goal.returns-in-Unseal-clause-done
returns-in-Unseal-clause-done c = rw c.in-Unseal.is c.run_unseal.ensures.done

pub returns-in-ReadCounter-clause-done : goal.returns-in-ReadCounter-clause-done
returns-in-ReadCounter-clause-done c =
    rw c.in-ReadCounter.is (λ untaken. c.read_counter.ensures.steps untaken c.args.vars.now.table)

pub returns-in-Draw-clause-done : goal.returns-in-Draw-clause-done
returns-in-Draw-clause-done c = rw c.in-Draw.is c.run_draw.ensures.done

pub returns-in-Quote-clause-done : goal.returns-in-Quote-clause-done
returns-in-Quote-clause-done c = rw c.in-Quote.is c.run_quote.ensures.done

pub returns-in-Check-clause-done : goal.returns-in-Check-clause-done
returns-in-Check-clause-done c =
    rw c.in-Check.is (λ untaken. c.check.ensures.steps untaken c.args.vars.now.table)

pub returns-in-ReadSlot-clause-done : goal.returns-in-ReadSlot-clause-done
returns-in-ReadSlot-clause-done c = rw c.in-ReadSlot.is c.run_slot.ensures.done

pub returns-in-Overwrite-clause-done : goal.returns-in-Overwrite-clause-done
returns-in-Overwrite-clause-done c =
    rw (c.in-Overwrite.is, ← c.as_slice-in-Overwrite.ensures)
    (λ untaken. c.overwrite.ensures.steps untaken c.args.vars.now.table)
