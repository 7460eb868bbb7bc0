mod DenialLemmas
pub mod CallLemmas
pub mod MessageLemmas
