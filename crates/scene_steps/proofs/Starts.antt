-- What an executive starts with.
pub mod ComingJobs
pub mod FirstJobs
pub mod FirstParts
