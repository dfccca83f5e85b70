pub mod Account
pub mod Measure
pub mod Refining
pub mod Since
