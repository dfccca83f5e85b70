pub mod Forward
pub mod Named
pub mod Ranges
