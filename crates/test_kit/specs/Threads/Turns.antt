pub mod Turns
pub mod Play
