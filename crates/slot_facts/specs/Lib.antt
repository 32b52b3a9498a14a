pub mod Bounds
pub mod Lawful
pub mod Lines
pub mod Offers
pub mod Patterns
pub mod Schedules
pub mod Service
pub mod Verdicts
