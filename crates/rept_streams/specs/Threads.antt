pub mod Kept
pub mod Notes
pub mod Turns
pub mod Joining
pub mod Linking
