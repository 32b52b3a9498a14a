pub mod CycleLemmas
pub mod FaultSteps
pub mod RangeLemmas
