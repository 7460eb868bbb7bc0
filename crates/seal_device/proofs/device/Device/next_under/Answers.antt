use Rattle.std.proofs.Common.{sym, ap, ◌∙◌, refl}
use Rattle.seal_device.specs.Bearings.{awaited}
use Rattle.seal_device.specs.Digests.{DigestDevice}
use Rattle.seal_device.proofs.Reading.{wrong_chain, tried}
use Rattle.seal_device.proofs.device.Device.next_under.Goals as goal

pub returns-then-not-is_chain : goal.returns-then-not-is_chain
returns-then-not-is_chain c =
    rw (wrong_chain c.args.self.now c.args.keys.now c.args.blob.now c.present_value.result
    (λ r. awaited c.args.self.now.counters r.counter)
    (sym c.is_tagged.ensures.tag ∙ c.if-not-is_tagged.false) c.present_value.ensures.value
    (sym c.is_chain.ensures ∙ c.if-not-is_chain.true)) refl

pub returns-in-None : goal.returns-in-None
returns-in-None c =
    rw (tried c.args.self.now c.args.keys.now c.args.blob.now c.present_value.result
    c.self.inside.counters c.borne_in.result c.awaited.result
    (sym c.is_tagged.ensures.tag ∙ c.if-not-is_tagged.false) c.present_value.ensures.value
    (sym c.is_chain.ensures ∙ c.if-not-is_chain.false)
    (ap (λ (d : DigestDevice). d.counters) c.self.view_is) c.borne_in.ensures
    c.awaited.ensures)
    (rw c.in-None.is refl)

pub returns-in-Some : goal.returns-in-Some
returns-in-Some c =
    rw (tried c.args.self.now c.args.keys.now c.args.blob.now c.present_value.result
    c.self.inside.counters c.borne_in.result c.awaited.result
    (sym c.is_tagged.ensures.tag ∙ c.if-not-is_tagged.false) c.present_value.ensures.value
    (sym c.is_chain.ensures ∙ c.if-not-is_chain.false)
    (ap (λ (d : DigestDevice). d.counters) c.self.view_is) c.borne_in.ensures
    c.awaited.ensures)
    (rw c.in-Some.is refl)
