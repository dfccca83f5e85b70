pub mod Writers
pub mod Latest
