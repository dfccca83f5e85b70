pub mod Converse
pub mod Dialog
pub mod Greeting
pub mod Onward
