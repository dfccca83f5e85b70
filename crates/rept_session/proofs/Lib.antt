pub mod WithinLemmas
pub mod WordLemmas
pub mod ServingLemmas
