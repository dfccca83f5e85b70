pub mod Going
pub mod Leaping
pub mod Likeness
