pub mod Trip
pub mod Alone
pub mod Executed
pub mod Last
