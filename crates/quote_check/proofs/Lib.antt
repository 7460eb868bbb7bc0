pub mod Chains
pub mod Sessions
