pub mod Carrying
pub mod Links
pub mod Reached
