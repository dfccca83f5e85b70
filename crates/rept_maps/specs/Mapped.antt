pub mod Mapped
pub mod Mappings
pub mod Naming
pub mod Views
