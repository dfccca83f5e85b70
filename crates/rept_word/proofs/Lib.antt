pub mod BitLemmas
pub mod NumberLemmas
