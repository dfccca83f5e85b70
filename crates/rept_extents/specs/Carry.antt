pub mod Rising
pub mod Links
pub mod Course
pub mod Lines
