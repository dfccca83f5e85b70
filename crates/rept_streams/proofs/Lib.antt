pub mod SlicesLemmas
pub mod ThreadsLemmas
pub mod RunsLemmas
