use Rattle.job_store.specs.Commands.{MayReply}
use Rattle.job_engine.specs.Answers.{Ran}
use Rattle.std.proofs.Common.{ℕ, List, take, subst, sym, ap, ◌∙◌, Ok}
use Rattle.job_engine.specs.Calls.{keeps, gives, new_blob, own_output}
use Rattle.job_engine.proofs.Runs.{ran_gives, ran_then, ran_exit}
use Rattle.job_engine.proofs.calls.keep_birth.Goals as goal

pub returns-in-Err-clause-ran : goal.returns-in-Err-clause-ran
returns-in-Err-clause-ran g c = λ image.
    ran_exit (MayReply g.D.Disk.contents g.D.Disk.fault_count g.D.Disk.call_gives) image (keeps c.args.j 0 (new_blob c.args.outputs.now)) (λ kept. gives (own_output c.args.outputs.now))
    c.args.board c.args.disk.now c.keep.new.disk c.in-Err.exit (rw (c.in-Err.is, c.taken_apart-outputs.ensures.blob) at (c.keep.ensures image))

pub returns-in-Ok-clause-ran : goal.returns-in-Ok-clause-ran
returns-in-Ok-clause-ran g c = λ image.
    ran_then (MayReply g.D.Disk.contents g.D.Disk.fault_count g.D.Disk.call_gives) image (keeps c.args.j 0 (new_blob c.args.outputs.now)) (λ kept. gives (own_output c.args.outputs.now))
    c.args.board c.in-Ok.board c.args.disk.now c.keep.new.disk c.keep.new.disk tt _ (rw (c.in-Ok.is, c.taken_apart-outputs.ensures.blob) at (c.keep.ensures image))
    (subst (λ (xs : List ℕ). Ran (MayReply g.D.Disk.contents g.D.Disk.fault_count g.D.Disk.call_gives) image (gives (own_output c.args.outputs.now)) c.in-Ok.board c.keep.new.disk c.keep.new.disk (Ok (c.in-Ok.board, xs)))
    (sym (ap (λ (n : ℕ). take n c.put.new.page) c.put.ensures.count ∙ c.put.ensures.front ∙ c.taken_apart-outputs.ensures.own))
    (ran_gives (MayReply g.D.Disk.contents g.D.Disk.fault_count g.D.Disk.call_gives) image (own_output c.args.outputs.now) c.in-Ok.board c.keep.new.disk))
