pub mod ArgumentLemmas
pub mod BufferLemmas
pub mod LineLemmas
pub mod MemoryLemmas
pub mod ReaderLemmas
pub mod ReadingLemmas
pub mod VerifyLemmas
pub mod WordLemmas
