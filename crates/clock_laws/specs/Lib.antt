pub mod Processor
pub mod Rounding
pub mod Handed
pub mod Service
pub mod Exact
