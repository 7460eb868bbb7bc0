-- why nothing is quoted, and no quote is checked
pub data Refusal : Type 0 where
  Unprovisioned : Refusal
