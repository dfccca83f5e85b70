pub mod ThreadsLemmas
