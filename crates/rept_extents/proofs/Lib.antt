pub mod Barring
pub mod Bounds
pub mod Coming
pub mod Acting
pub mod Going
pub mod CarryLemmas
