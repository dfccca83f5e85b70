pub mod Turns
pub mod Play
pub mod Woven
pub mod Maderuns
