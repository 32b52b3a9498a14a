-- The offline jobs of a set: their chains, windows, cycles and keys.
pub mod ChainRoom
pub mod Chains
pub mod CycleMultiples
pub mod Cycles
pub mod DistinctKeys
pub mod Jobs
pub mod LaterCycles
pub mod LaterJobs
pub mod RawJobs
pub mod Windows
