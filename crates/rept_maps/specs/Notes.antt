pub mod Ahead
pub mod Found
pub mod Notes
pub mod Nth
pub mod Sought
