pub mod Sizes
pub mod Apart
pub mod RegionLemmas
pub mod ImageLemmas
pub mod SessionLemmas
pub mod Closing
