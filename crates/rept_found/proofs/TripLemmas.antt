pub mod Last
pub mod Single
pub mod Telling
pub mod Seeing
pub mod Acting
pub mod Pointing
pub mod Paths
pub mod Naming
