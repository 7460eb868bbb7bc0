-- why no random word is drawn, in the order of trial
pub data Refusal : Type 0 where
  Unprovisioned : Refusal
  RandomEnd : Refusal
