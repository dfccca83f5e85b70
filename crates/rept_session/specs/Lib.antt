pub mod Commands
pub mod Help
pub mod Registers
pub mod Session
pub mod SessionLaws
pub mod Texts
pub mod Words
pub mod Serving
