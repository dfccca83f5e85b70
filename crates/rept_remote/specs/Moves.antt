pub mod Halts
pub mod Spots
pub mod Told
