pub mod Nets
pub mod Reached
