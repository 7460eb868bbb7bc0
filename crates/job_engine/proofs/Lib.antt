pub mod Machines
pub mod Runs
pub mod Slots
pub mod Sessions
pub mod Whole
pub mod WholeCalls
pub mod Lists
pub mod Returns
