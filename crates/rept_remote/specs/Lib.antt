pub mod Escapes
pub mod Frames
pub mod Reading
pub mod Steps
pub mod Request
pub mod Moves
