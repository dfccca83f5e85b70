pub mod Stamped
pub mod Steps
pub mod Woven
