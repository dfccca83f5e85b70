pub mod Entering
pub mod Adding
pub mod Few
pub mod Notes
pub mod Paths
pub mod Ended
