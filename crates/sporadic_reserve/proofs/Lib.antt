pub mod Arrivals
pub mod Counts
pub mod Demands
pub mod FirstRates
pub mod Growths
pub mod Inverses
pub mod Rises
