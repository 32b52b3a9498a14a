pub mod ArrivalsGrow
pub mod Blocks
pub mod CycleTotals
pub mod EndCounts
pub mod EndSums
pub mod Schedules
pub mod WindowSums
