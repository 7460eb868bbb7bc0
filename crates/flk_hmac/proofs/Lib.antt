pub mod Sameness
pub mod MacLengths
pub mod Masks
pub mod Pads
pub mod QuoteLengths
