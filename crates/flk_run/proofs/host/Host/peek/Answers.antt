use Rattle.std.proofs.Common.{◌≡◌, ℕ, List, ◌++◌, length, take, drop, ap, ◌∙◌, arith}
use Rattle.std.proofs.Math.Seq.{take-append_seam}
use Rattle.flk_run.specs.declared.answers.Refusal.TheVariants.{NoTaken}
use Rattle.flk_run.specs.Answers.{Shows, Refused}
use Rattle.flk_run.specs.Parts.{host_memory}
use Rattle.flk_run.proofs.StepLemmas.{peek_done, peek_refused}
use Rattle.flk_run.proofs.HostLemmas.{memory_steps, kept}
use Rattle.flk_run.proofs.host.Host.peek.Goals as goal

-- a buffer that was written whole is what was written
all_written : (n : ℕ) (written rest : List ℕ) → n ≡ length written
    → take n (written ++ rest) ≡ written
all_written n written rest long =
    ap (λ (k : ℕ). take k (written ++ rest)) long ∙ take-append_seam written rest

pub returns-in-Ok-clause-steps : goal.returns-in-Ok-clause-steps
returns-in-Ok-clause-steps c = rw (← c.self.view_is) (λ untaken variables.
    let whole = all_written c.args.bytes.len c.host_read.new.out
    (drop (length c.host_read.new.out) c.args.bytes.items)
    (omega (arith, c.host_read.auto.out, c.deref_mut.ensures.len)) in
    let left = peek_done c.args.at
    (length c.args.bytes.items) c.host_read.new.out c.self.inside.board.memory c.self.inside.tickets.items (c.self.invariant.all untaken)
    (rw c.deref_mut.ensures.value at c.in-Ok.ensures.taken)
    (rw c.deref_mut.ensures.value at c.in-Ok.ensures.read) in
    memory_steps _ _ _ (host_memory c.self.inside.board.memory c.self.inside.tickets.items) _
    (Shows _) c.self.inside.armed c.self.inside.disk variables (kept c.self.inside.board) (rw whole left.is))

pub returns-in-Err-clause-steps : goal.returns-in-Err-clause-steps
returns-in-Err-clause-steps c = rw (← c.self.view_is) (λ untaken variables.
    let left = peek_refused c.args.at
    (length c.args.bytes.items) c.self.inside.board.memory c.self.inside.tickets.items
    (c.self.invariant.all untaken) (rw c.deref_mut.ensures.value at c.in-Err.ensures.taken) in
    memory_steps _ _ _ (host_memory c.self.inside.board.memory c.self.inside.tickets.items) _
    (Refused NoTaken) c.self.inside.armed c.self.inside.disk variables (kept c.self.inside.board) left.is)
