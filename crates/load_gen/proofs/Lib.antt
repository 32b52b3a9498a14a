pub mod ArrivalLemmas
pub mod Feasible
pub mod Instances
pub mod Sound
pub mod TallyLemmas
