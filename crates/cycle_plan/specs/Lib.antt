pub mod FaultTexts
pub mod NearJobs
pub mod StartOrder
