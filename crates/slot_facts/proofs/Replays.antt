-- The replay of arrivals: what is left of it after a history.
pub mod Entries
pub mod Following
pub mod Lengths
pub mod Named
pub mod Times
pub mod Told
