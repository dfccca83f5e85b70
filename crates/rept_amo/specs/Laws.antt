pub mod Listed
pub mod Sound
pub mod Own
pub mod NeedLaws
pub mod Counts
pub mod Sure
pub mod AtomicLaws
