use Rattle.flk_hmac.proofs.Masks.{masked_bytes-masked_bytes, length-masked_bytes}
use Rattle.flk_hmac.proofs.masking.mask_law.Goals as goal

pub returns-clause-twice : goal.returns-clause-twice
returns-clause-twice c = λ key bytes serial. masked_bytes-masked_bytes key serial bytes

pub returns-clause-same_length : goal.returns-clause-same_length
returns-clause-same_length c = λ key bytes serial. length-masked_bytes key serial bytes
