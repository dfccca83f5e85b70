pub mod Turning
pub mod Sharing
pub mod Running
pub mod Listing
pub mod Finishing
pub mod Drawing
