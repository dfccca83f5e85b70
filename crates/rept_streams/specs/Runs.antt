pub mod Calls
pub mod Told
pub mod Notes
pub mod Kind
pub mod Ended
