pub mod Added
pub mod Known
pub mod Writing
pub mod Narrowed
