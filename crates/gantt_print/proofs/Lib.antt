pub mod ChartLemmas
pub mod MarkLemmas
pub mod RowLemmas
