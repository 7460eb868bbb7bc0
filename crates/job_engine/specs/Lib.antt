pub mod Jobs
pub mod Calls
pub mod Commands
pub mod Runs
pub mod Ends
pub mod Whole
pub mod Answers
