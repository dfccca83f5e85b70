pub mod Small
pub mod Listed
pub mod Lawful
pub mod Strips
pub mod Paths
pub mod Ends
