-- Why a call on counters is refused, by calls.
pub mod Create
pub mod ReadCounter
pub mod Increment
