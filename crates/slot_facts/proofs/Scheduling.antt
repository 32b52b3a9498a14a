-- Slot schedules of safe jobs, and what slot schedules need.
pub mod Beside
pub mod Chains
pub mod Counts
pub mod Extras
pub mod Fits
pub mod LegalStarts
pub mod NextCycle
pub mod Numbers
pub mod Queue
pub mod Raw
pub mod Safe
