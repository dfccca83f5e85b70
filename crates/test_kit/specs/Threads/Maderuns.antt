pub mod Words
pub mod Files
pub mod Harts
pub mod Made
pub mod Told
