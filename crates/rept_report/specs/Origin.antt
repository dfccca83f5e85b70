pub mod Bridges
pub mod Logs
