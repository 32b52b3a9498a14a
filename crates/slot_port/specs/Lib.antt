pub mod Answers
pub mod Faults
pub mod Keys
pub mod Spans
pub mod Statuses
pub mod Calls
pub mod Changes
