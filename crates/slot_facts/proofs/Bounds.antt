-- The bounds that scenes keep, and jobs of which no deadline is at risk.
pub mod CycleDemand
pub mod CycleLater
pub mod CycleSums
pub mod OneSlot
pub mod Safe
pub mod SafeStart
pub mod TakenArrival
