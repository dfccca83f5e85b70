pub mod Inserting
pub mod Linking
pub mod Carrying
pub mod Keeping
pub mod Lining
