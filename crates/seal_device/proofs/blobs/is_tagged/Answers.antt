use Rattle.std.proofs.Common.{sym, ap, ◌∙◌}
use Rattle.std.specs.Prelude.{bytes_eq}
use Rattle.seal_device.specs.Keys.{Keys}
use Rattle.seal_device.proofs.Reading.{tag_ok-unformed, tag_ok-formed}
use Rattle.seal_device.proofs.blobs.is_tagged.Goals as goal

pub returns-then-not-is_formed-clause-tag : goal.returns-then-not-is_formed-clause-tag
returns-then-not-is_formed-clause-tag c =
    tag_ok-unformed _ _ (sym c.is_formed.ensures ∙ c.if-not-is_formed.true)

pub returns-clause-tag : goal.returns-clause-tag
returns-clause-tag c =
    c.is_same.ensures
    ∙ ap (bytes_eq c.split_at.result.1.now) c.mac.ensures
    ∙ tag_ok-formed c.args.keys.now c.args.blob.now _ _ _ _
    (sym c.is_formed.ensures ∙ c.if-not-is_formed.false)
    (ap (λ (k : Keys). k.sealing) c.keys.view_is) c.length_in.ensures c.split_at.ensures.front
    c.split_at.ensures.back
