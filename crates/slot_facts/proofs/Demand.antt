-- The processor demand of windows, and what one slot keeps of it.
pub mod Arrivals
pub mod Feasible
pub mod OneSlot
