use Rattle.std.proofs.Common.{ℕ, List, refl, ap, ◌∙◌, arith}
use Rattle.seal_device.specs.Keys.{Keys}
use Rattle.seal_device.specs.Sealed.{Sealed}
use Rattle.seal_device.proofs.Writes.{blob_written}
use Rattle.seal_device.proofs.blobs.write_blob.Goals as goal

pub returns-clause-written : goal.returns-clause-written
returns-clause-written c =
    let r : Sealed (List ℕ) =
    record {
      serial = c.args.serial;
      chain = c.args.chain.now;
      counter = c.args.counter;
      bytes = c.args.bytes.now;
    } in
    blob_written c.args.keys.now r _ _ _ c.args.out.now _ _ _
    (ap (λ (k : Keys). k.masking) c.keys.view_is) (ap (λ (k : Keys). k.sealing) c.keys.view_is)
    (c.copy_from_slice.ensures.after ∙ c.head_of.ensures) (omega arith)
    c.mask_into.ensures refl (c.copy_from_slice-2.ensures.after ∙ c.mac-tag.ensures) (omega arith)
