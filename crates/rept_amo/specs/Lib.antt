pub mod Conclusions
pub mod Listing
pub mod Needs
pub mod Writes
pub mod Atomic
pub mod Laws
pub mod Rows
