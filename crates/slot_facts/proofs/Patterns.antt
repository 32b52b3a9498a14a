-- Patterns of sporadic arrivals, and what they need.
pub mod Counts
pub mod Densest
pub mod NeedNoMore
pub mod Work
