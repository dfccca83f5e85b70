pub mod Logged
pub mod Since
