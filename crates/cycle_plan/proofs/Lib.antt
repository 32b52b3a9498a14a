pub mod NearJobFacts
pub mod PlanFacts
pub mod StartsInOrder
