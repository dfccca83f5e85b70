pub mod Course
pub mod Linked
pub mod Runs
pub mod Tested
