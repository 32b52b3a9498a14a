-- The job that is chosen among those that are ready.
pub mod Earliest
pub mod Ready
pub mod Runs
pub mod SameEarliest
