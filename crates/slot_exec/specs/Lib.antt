pub mod Ahead
pub mod Parts
pub mod Changes
pub mod Offers
pub mod Rooms
pub mod TestSets
