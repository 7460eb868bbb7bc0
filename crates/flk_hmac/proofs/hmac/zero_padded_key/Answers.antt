use Rattle.std.proofs.Common.{ℕ, List, ◌++◌, length, ap}
use Rattle.std.proofs.lemmas.List.{drop-replicate}
use Rattle.flk_hmac.proofs.hmac.zero_padded_key.Goals as goal

pub returns : goal.returns
returns c =
    let key = c.args.key.now in
    rw c.copy_from_slice.ensures.after
    (ap (λ (zeros : List ℕ). key ++ zeros) (drop-replicate (length key) 64 0))
