pub mod Facts
pub mod View
