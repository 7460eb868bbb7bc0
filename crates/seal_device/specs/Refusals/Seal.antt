-- why bytes are not sealed, in the order of trial
pub data Refusal : Type 0 where
  Unprovisioned : Refusal
  TooLong : Refusal
  NoCounter : Refusal
  CounterEnd : Refusal
  SerialEnd : Refusal
