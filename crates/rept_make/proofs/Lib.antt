pub mod Coding
pub mod Filed
pub mod Laying
pub mod Making
pub mod Nearness
pub mod Running
pub mod Saving
