pub mod Fitting
pub mod Frames
pub mod Going
pub mod HeaderLemmas
pub mod LeftOut
pub mod ReadLemmas
pub mod Reading
pub mod StreamLemmas
