-- why no counter is created, in the order of trial
pub data Refusal : Type 0 where
  Full : Refusal
  End : Refusal
