pub mod NumberLemmas
pub mod RowLemmas
pub mod WordLemmas
pub mod RangeLemmas
pub mod EncodeLemmas
pub mod WrittenLemmas
