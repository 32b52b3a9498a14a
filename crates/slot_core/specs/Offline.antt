-- The offline jobs of a set: precedence, windows and keys.
pub mod Precedence
pub mod OfflineJobs
pub mod Windows
pub mod Keys
