pub mod Log
pub mod Recorded
pub mod Steps
pub mod Stretches
