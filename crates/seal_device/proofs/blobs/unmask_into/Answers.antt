use Rattle.std.proofs.Common.{◌≡◌, ap, ◌∙◌, sym, length}
use Rattle.seal_device.specs.Keys.{Keys}
use Rattle.seal_device.specs.Blobs.{sealed_of}
use Rattle.seal_device.proofs.Reading.{length-sealed_of, bytes-sealed_of}
use Rattle.seal_device.proofs.Writes.{first_written}
use Rattle.seal_device.proofs.blobs.unmask_into.Goals as goal
use Rattle.seal_device.proofs.blobs.unmask_into.Goals.{After-mask_into}

-- the part holds what the blob bears
borne : (c : After-mask_into) →
    c.mask_into.new.part ≡ (sealed_of c.args.keys.now c.args.blob.now).bytes
borne c = bytes-sealed_of _ _ _ _ _ _ (ap (λ (k : Keys). k.masking) c.keys.view_is)
    c.serial_in.ensures c.length_in-length.ensures c.mask_into.ensures

size : (c : After-mask_into) →
    c.length_in-length.result ≡ length (sealed_of c.args.keys.now c.args.blob.now).bytes
size c = c.length_in-length.ensures ∙ sym (length-sealed_of _ _ c.requires)

pub returns-clause-written : goal.returns-clause-written
returns-clause-written c = first_written _ _ _ _ (ap length (borne c) ∙ sym (size c)) (borne c)

pub returns-clause-size : goal.returns-clause-size
returns-clause-size c = size c
