pub mod Reaching
pub mod Searching
