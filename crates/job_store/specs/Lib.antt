pub mod Pieces
pub mod Contents
pub mod PowerCycle
pub mod Calls
pub mod Simulated
pub mod Slots
pub mod Commands
