pub mod Places
pub mod Slices
pub mod Wider
pub mod Playing
pub mod Examples
