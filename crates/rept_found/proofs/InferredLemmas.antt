pub mod Kept
pub mod KnownLaws
pub mod Lined
pub mod Greatest
pub mod Reaching
pub mod Walking
pub mod Writers
