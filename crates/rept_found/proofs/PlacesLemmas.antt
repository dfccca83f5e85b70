pub mod Naming
pub mod Matching
pub mod Telling
