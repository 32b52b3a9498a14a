pub mod ArrivalOrder
pub mod Comings
pub mod Needs
pub mod SameShown
pub mod ShownJobs
