pub mod RangeBounds
pub mod RangeCovering
pub mod RangeMonotony
pub mod RangeNarrowing
pub mod RangeMoves
