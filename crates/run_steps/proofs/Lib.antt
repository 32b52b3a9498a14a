pub mod GatheredArrivals
pub mod PlannedSets
pub mod RefusedSets
pub mod SourcePlans
pub mod StageLemmas
pub mod StepLemmas
