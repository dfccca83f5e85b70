pub mod Havoc
pub mod Laws
