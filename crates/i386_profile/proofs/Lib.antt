pub mod Fields
pub mod ModRm
pub mod Again
pub mod Takes
pub mod Lengths
pub mod Decoded
pub mod Written
