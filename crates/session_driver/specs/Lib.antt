pub mod Sessions
pub mod Filled
pub mod Answers
pub mod Resume
pub mod Quiet
