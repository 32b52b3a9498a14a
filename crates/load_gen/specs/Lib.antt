pub mod LoadArrivals
pub mod Loads
pub mod Tallies
pub mod TallyLaws
