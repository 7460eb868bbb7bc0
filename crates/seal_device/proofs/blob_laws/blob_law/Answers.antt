use Rattle.seal_device.proofs.BlobLaws.{tag_ok-blob, parsed-blob, one_blob, length-blob_of}
use Rattle.seal_device.proofs.blob_laws.blob_law.Goals as goal

pub returns-clause-tag : goal.returns-clause-tag
returns-clause-tag c = λ keys r fits long. tag_ok-blob keys r fits long

pub returns-clause-read : goal.returns-clause-read
returns-clause-read c = λ keys r fits long. parsed-blob keys r fits long

pub returns-clause-determines : goal.returns-clause-determines
returns-clause-determines c = λ keys r s fits fits' long long' same.
    one_blob keys r s fits fits' long long' same

pub returns-clause-length : goal.returns-clause-length
returns-clause-length c = λ keys r long. length-blob_of keys r long
