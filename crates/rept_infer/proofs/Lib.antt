pub mod Frame
pub mod Handing
pub mod Listing
pub mod Carrying
pub mod Classing
