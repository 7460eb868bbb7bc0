use Rattle.std.proofs.Common.{ap, arith, length}
use Rattle.job_store.specs.Slots.{blob_in, entry, with_blob}
use Rattle.job_store.proofs.SlotBytes.{other-torn, torn-blob, length-entry}
use Rattle.job_store.proofs.laws.other_slots_law.Goals as goal

pub returns-clause-failed : goal.returns-clause-failed
returns-clause-failed c = λ old new j s i t count size hj hs hi ht other few torn.
    let same = other-torn old new j s i t count size hj hs hi ht other few torn in
    (same, ap blob_in same)

pub returns-clause-done : goal.returns-clause-done
returns-clause-done c = λ disk j s i t blob size hj hs hi ht other short.
    let same = other-torn disk (with_blob j s blob disk) j s i t (length (entry blob)) size hj hs hi
    ht other (omega (arith, length-entry blob)) (torn-blob j s blob disk size hj hs short) in
    (same, ap blob_in same)
