pub mod Headers
pub mod Laws
pub mod Loads
pub mod Tightest
pub mod Who
