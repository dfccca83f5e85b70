pub mod Numbering
pub mod Relations
pub mod Holding
pub mod Classes
