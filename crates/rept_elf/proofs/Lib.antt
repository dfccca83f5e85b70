pub mod NamingLemmas
pub mod SegmentLemmas
pub mod SymbolLemmas
