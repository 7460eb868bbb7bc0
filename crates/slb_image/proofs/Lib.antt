pub mod Checked
pub mod Packed
pub mod Ranges
pub mod Read
