pub mod Pairs
pub mod Likeness
pub mod Steps
