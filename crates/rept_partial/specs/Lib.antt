pub mod Sets
pub mod Flats
pub mod Ranges
