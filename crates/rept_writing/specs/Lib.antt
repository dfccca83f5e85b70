pub mod Hits
pub mod Filed
pub mod Acting
pub mod Bounded
pub mod Passes
