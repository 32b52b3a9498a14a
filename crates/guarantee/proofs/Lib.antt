pub mod Decisions
pub mod Places
pub mod Searches
pub mod Segments
pub mod Starts
pub mod Tables
