pub mod Kept
pub mod Laws
pub mod Margins
pub mod Parts
pub mod Search
