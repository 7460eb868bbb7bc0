-- why a register is neither extended nor read
pub data Refusal : Type 0 where
  NoRegister : Refusal
