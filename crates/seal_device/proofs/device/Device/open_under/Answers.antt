use Rattle.std.proofs.Common.{sym, ap, ◌∙◌, refl}
use Rattle.seal_device.specs.Bearings.{content}
use Rattle.seal_device.specs.Digests.{DigestDevice}
use Rattle.seal_device.proofs.Reading.{wrong_chain, opens, bytes_reported}
use Rattle.seal_device.proofs.device.Device.open_under.Goals as goal

pub returns-then-not-is_chain-clause-opened : goal.returns-then-not-is_chain-clause-opened
returns-then-not-is_chain-clause-opened c =
    rw (wrong_chain c.args.self.now c.args.keys.now c.args.blob.now c.present_value.result
    (content c.args.self.now.counters)
    (sym c.is_tagged.ensures.tag ∙ c.if-not-is_tagged.false) c.present_value.ensures.value
    (sym c.is_chain.ensures ∙ c.if-not-is_chain.true)) refl

pub returns-then-not-is_standing-clause-opened : goal.returns-then-not-is_standing-clause-opened
returns-then-not-is_standing-clause-opened c =
    rw (opens c.args.self.now c.args.keys.now c.args.blob.now c.present_value.result
    c.self.inside.counters c.borne_in.result c.is_standing.result
    (sym c.is_tagged.ensures.tag ∙ c.if-not-is_tagged.false) c.present_value.ensures.value
    (sym c.is_chain.ensures ∙ c.if-not-is_chain.false)
    (ap (λ (d : DigestDevice). d.counters) c.self.view_is) c.borne_in.ensures
    c.is_standing.ensures)
    (rw c.if-not-is_standing.true refl)

pub returns-clause-opened : goal.returns-clause-opened
returns-clause-opened c =
    rw (opens c.args.self.now c.args.keys.now c.args.blob.now c.present_value.result
    c.self.inside.counters c.borne_in.result c.is_standing.result
    (sym c.is_tagged.ensures.tag ∙ c.if-not-is_tagged.false) c.present_value.ensures.value
    (sym c.is_chain.ensures ∙ c.if-not-is_chain.false)
    (ap (λ (d : DigestDevice). d.counters) c.self.view_is) c.borne_in.ensures
    c.is_standing.ensures)
    (rw c.if-not-is_standing.false
    (bytes_reported _ _ _ _ c.unmask_into.ensures.size c.unmask_into.ensures.written))
