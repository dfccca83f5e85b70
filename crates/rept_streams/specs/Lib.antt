pub mod Slices
pub mod Threads
pub mod Runs
