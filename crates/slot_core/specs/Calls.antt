-- How calls answer and count.
pub mod Counts
pub mod Results
