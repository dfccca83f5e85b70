pub mod LastWriters
pub mod Shown
pub mod Texts
