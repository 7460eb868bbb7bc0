use Rattle.std.proofs.Common.{ap, ◌∙◌}
use Rattle.job_store.specs.declared.sizes.TheConstants.{SLOT_LEN}
use Rattle.job_store.specs.Slots.{slot_at, blob_in, with_blob}
use Rattle.job_store.proofs.Standing.{part-stands}
use Rattle.job_store.proofs.SlotBytes.{slot-on_disk, stored-blob, torn-blob}
use Rattle.job_store.proofs.laws.slot_law.Goals as goal

pub returns-clause-bytes : goal.returns-clause-bytes
returns-clause-bytes c = λ j s disk synced later between after size hj hs before on spared next spared'.
    part-stands (slot_at j s) SLOT_LEN disk (slot-on_disk j s hj hs) synced later between after size
    before on spared next spared'

pub returns-clause-blob : goal.returns-clause-blob
returns-clause-blob c =
    λ j s blob disk synced later between after size hj hs some short before on spared next spared'.
    ap blob_in
    (part-stands (slot_at j s) SLOT_LEN (with_blob j s blob disk) (slot-on_disk j s hj hs) synced later
    between after (torn-blob j s blob disk size hj hs short).size before on spared next spared')
    ∙ stored-blob disk j s blob size hj hs some short
