pub mod Boards
pub mod Regions
pub mod Ends
pub mod States
pub mod Lending
pub mod Answers
