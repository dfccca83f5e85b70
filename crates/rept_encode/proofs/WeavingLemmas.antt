pub mod Bytes
pub mod Clock
pub mod Stamping
pub mod Weaving
