pub mod HalfLemmas
pub mod ReadLemmas
mod RangeLemmas
