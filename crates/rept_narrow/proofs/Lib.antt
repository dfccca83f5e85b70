pub mod Sentences
pub mod Placing
pub mod Combining
pub mod Undoing
pub mod Unmasking
mod Computing
pub mod Calling
pub mod Loading
pub mod Touching
pub mod Exchanging
pub mod Answering
pub mod Truth
pub mod Sweeping
