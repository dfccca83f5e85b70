pub mod Counting
pub mod Summing
pub mod Rowing
pub mod Remembering
pub mod Leaving
pub mod ClassesLemmas
