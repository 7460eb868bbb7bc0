pub mod Decoding
pub mod Loans
pub mod TurnLemmas
pub mod PalLemmas
pub mod WriteLemmas
pub mod JobLemmas
pub mod ServeLemmas
pub mod ResumeLemmas
