pub mod HeldRuns
pub mod MarkedInstances
pub mod RowCounts
pub mod Steps
