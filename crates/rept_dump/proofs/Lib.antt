pub mod NoteLemmas
pub mod SearchLemmas
pub mod Stretches
pub mod ThreadLemmas
