-- why a counter is not incremented, in the order of trial
pub data Refusal : Type 0 where
  NoCounter : Refusal
  NotOwner : Refusal
  End : Refusal
