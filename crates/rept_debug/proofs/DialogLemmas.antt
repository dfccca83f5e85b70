pub mod Course
pub mod Early
