-- why bytes are not unsealed, in the order of trial
pub data Refusal : Type 0 where
  Unprovisioned : Refusal
  NotBlob : Refusal
  WrongChain : Refusal
  WrongCounter : Refusal
