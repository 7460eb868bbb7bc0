use Rattle.std.proofs.Common.{◌∙◌, ap, ℕ, List, ◌++◌, length, drop}
use Rattle.std.proofs.lemmas.List.{drop-replicate}
use Rattle.job_engine.proofs.calls.put.Goals as goal

pub returns-clause-page : goal.returns-clause-page
returns-clause-page c =
    ap (λ (xs : List ℕ). xs ++ drop (length c.args.bytes.now) c.args.page.now) c.copy_from_slice.ensures.after
    ∙ ap (λ (xs : List ℕ). c.args.bytes.now ++ drop (length c.args.bytes.now) xs) c.requires.blank
    ∙ ap (λ (xs : List ℕ). c.args.bytes.now ++ xs) (drop-replicate (length c.args.bytes.now) 4096 0)
