pub mod Checks
pub mod Header
pub mod Image
pub mod Naming
pub mod SectionParts
pub mod Sections
pub mod Segments
pub mod Symbols
