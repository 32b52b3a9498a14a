pub mod Sets
pub mod Offline
pub mod Feasibility
pub mod Runs
pub mod Claims
pub mod Keeping
pub mod Output
pub mod Calls
