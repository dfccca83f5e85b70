pub mod Bytes
pub mod Kept
pub mod Listed
pub mod Stands
