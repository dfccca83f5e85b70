pub mod Halves
pub mod Reading
