pub mod Codes
pub mod Spelling
pub mod Chosen
pub mod Laws
pub mod Reading
pub mod Segments
pub mod Flags
pub mod Effects
