pub mod Running
pub mod Pieces
pub mod Filling
pub mod Resuming
pub mod Permitted
pub mod Quiet
