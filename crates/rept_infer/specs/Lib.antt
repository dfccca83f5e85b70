pub mod Fresh
pub mod Holding
pub mod Path
