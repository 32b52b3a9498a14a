pub mod BlockLemmas
pub mod DistinctRows
pub mod RowLemmas
pub mod RowCounts
pub mod FirmCounts
