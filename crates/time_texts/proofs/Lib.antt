pub mod Examples
pub mod Readings
pub mod Values
pub mod Writings
