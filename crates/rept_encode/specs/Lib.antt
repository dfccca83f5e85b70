pub mod Added
pub mod Bits
pub mod Encoded
pub mod State
pub mod Walkable
pub mod Written
pub mod Weaving
