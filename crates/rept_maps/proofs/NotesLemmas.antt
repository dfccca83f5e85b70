pub mod Leaping
pub mod NoteLemmas
pub mod NthLemmas
