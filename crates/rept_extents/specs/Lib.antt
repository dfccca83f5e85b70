pub mod Extents
pub mod Hulls
pub mod Tables
pub mod Times
pub mod Timelines
pub mod Carry
