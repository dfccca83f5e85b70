pub mod FileMap
pub mod NamesLeft
pub mod Told
pub mod Views
pub mod Notes
pub mod Mapped
pub mod Mapfiles
