pub mod ReadLemmas
pub mod ServeLemmas
