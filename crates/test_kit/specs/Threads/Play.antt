pub mod Shares
pub mod Code
pub mod Ran
pub mod Played
pub mod Drawn
pub mod Made
