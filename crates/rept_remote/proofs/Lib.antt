pub mod Escaping
pub mod Taking
pub mod Unique
pub mod Written
pub mod MovesLemmas
