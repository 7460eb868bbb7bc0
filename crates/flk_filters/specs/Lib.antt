pub mod Filters
pub mod Inputs
pub mod Seen
