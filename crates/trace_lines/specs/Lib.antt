pub mod Capacities
pub mod Laws
pub mod Named
pub mod Parts
pub mod Ranges
pub mod Readings
pub mod Texts
pub mod Traces
