pub mod Cycles
pub mod InMemory
pub mod Lists
pub mod Outcomes
pub mod SlotBytes
pub mod Standing
