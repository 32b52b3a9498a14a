pub mod MultipleLemmas
pub mod RangeLemmas
