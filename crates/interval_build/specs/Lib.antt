pub mod FirstJobs
pub mod Rows
