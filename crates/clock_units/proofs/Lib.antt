pub mod EachLoop
pub mod Examples
pub mod Parts
pub mod Ranges
pub mod Roundings
