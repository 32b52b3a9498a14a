pub mod Reserves
pub mod Rates
