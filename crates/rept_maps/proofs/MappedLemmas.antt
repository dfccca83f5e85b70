pub mod NamingLemmas
pub mod Searches
