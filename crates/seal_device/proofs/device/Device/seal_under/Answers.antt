use Rattle.std.proofs.Common.{sym, ap, ◌∙◌}
use Rattle.seal_device.specs.Digests.{DigestDevice}
use Rattle.seal_device.proofs.BlobFields.{length-blob}
use Rattle.seal_device.proofs.Making.{blob_given}
use Rattle.seal_device.proofs.Reading.{bytes_reported}
use Rattle.seal_device.proofs.device.Device.seal_under.Goals as goal

pub returns-clause-sealed : goal.returns-clause-sealed
returns-clause-sealed c =
    rw (blob_given c.args.self.now c.args.keys.now c.args.bytes.now c.args.counter c.args.ahead
    c.self.inside.serial c.self.inside.counters c.present_value-present.result c.in-Ok.borne
    (sym c.in-Ok.is ∙ c.bearing_to_seal.ensures.bearing)
    (ap (λ (d : DigestDevice). d.serial) c.self.view_is)
    (ap (λ (d : DigestDevice). d.counters) c.self.view_is) c.present_value-present.ensures.value)
    (bytes_reported _ _ _ _
    (c.write_blob.ensures.size
    ∙ sym (length-blob c.args.keys.now c.self.inside.serial c.present_value-present.result
    c.args.bytes.now c.in-Ok.borne
    c.present_value-present.ensures.size))
    c.write_blob.ensures.written)
