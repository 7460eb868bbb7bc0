pub mod FrameSpans
pub mod Frames
pub mod HeldSpans
pub mod MarkLemmas
pub mod PlaceLemmas
pub mod PoolMarks
pub mod Search
