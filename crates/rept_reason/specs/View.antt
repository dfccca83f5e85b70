pub mod Rules
pub mod Seen
pub mod Written
