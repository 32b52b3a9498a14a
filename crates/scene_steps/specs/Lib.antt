pub mod Rows
pub mod Scenes
pub mod Steps
pub mod Ends
pub mod Joins
pub mod Withdrawals
pub mod SporadicArrivals
