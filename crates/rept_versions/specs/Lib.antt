pub mod Blocks
pub mod Facts
pub mod Line
pub mod Listed
pub mod Moves
pub mod OnLine
pub mod Puts
pub mod Row
