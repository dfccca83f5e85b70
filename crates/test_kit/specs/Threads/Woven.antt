pub mod Told
pub mod Ordered
pub mod Worked
