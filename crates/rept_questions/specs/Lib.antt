pub mod Calls
pub mod Lost
pub mod Spots
pub mod Texts
pub mod Trail
pub mod Writers
pub mod Frames
