-- What is claimed of a run, of what may still come, and of other schedulers.
pub mod Service
pub mod Schedules
pub mod Futures
pub mod Safety
pub mod Lawful
pub mod Growth
