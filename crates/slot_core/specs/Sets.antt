-- Task sets: names, ranges, cycles, and the first fault of one.
pub mod Names
pub mod Ranges
pub mod Cycles
pub mod Faults
