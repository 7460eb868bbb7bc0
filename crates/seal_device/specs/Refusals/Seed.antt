-- why a seed is not taken
pub data Refusal : Type 0 where
  Provisioned : Refusal
