pub mod CheckLines
pub mod MarginLines
pub mod PlanLines
pub mod WrittenVersion
