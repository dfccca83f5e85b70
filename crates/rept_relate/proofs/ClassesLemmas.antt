pub mod Shifting
pub mod Changing
