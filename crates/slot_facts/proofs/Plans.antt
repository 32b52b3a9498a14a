-- The parts of a plan: its jobs in deadline order, its points and its spans.
pub mod CyclePoints
pub mod DeadlineOrder
pub mod FirstSpans
pub mod Horizons
pub mod InOrder
pub mod Items
pub mod LaterPoints
pub mod Planned
pub mod Points
pub mod PointsInAnyOrder
pub mod SetPoints
pub mod SortedJobs
pub mod SpanSums
