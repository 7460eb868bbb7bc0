-- why a counter is not read
pub data Refusal : Type 0 where
  NoCounter : Refusal
