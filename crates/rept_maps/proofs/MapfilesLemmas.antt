pub mod Distinct
pub mod Keeping
pub mod BoundLemmas
