pub mod Checks
pub mod Growths
pub mod Laws
pub mod Lengths
pub mod Lines
pub mod Loads
pub mod Shorter
