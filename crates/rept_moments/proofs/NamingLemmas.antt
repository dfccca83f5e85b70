pub mod Naming
pub mod Seen
pub mod Making
pub mod Carried
pub mod Ordered
pub mod Examples
pub mod Ends
