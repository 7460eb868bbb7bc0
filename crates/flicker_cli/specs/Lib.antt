pub mod Calls
pub mod Commands
pub mod Messages
pub mod Room
pub mod Starts
pub mod Texts
